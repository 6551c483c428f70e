-- T4 and T5: a host that starts and stops what the answers say has running, for each place and member, exactly the timer of its state. At each input the
-- clause says which timer stops and which starts, and one look at its three cases does the rest.
use Rattle.std.proofs.Common.{◌≡◌, ℕ, ◌-◌, ◌<◌, true, false, List, [], ◌∷◌, Option, None, sym, refl, ap, ◌∙◌}
use lib.ListN.{get_or-replicate}
use Rattle.table.specs.Places.{place_count}
use Rattle.stays.specs.Stays.{Stays, none}
use Rattle.stays.specs.Demand.{Act}
use Rattle.stays.proofs.Part.{getD-free}
use Rattle.lamps.specs.declared.Endpoint.{Endpoint}
use Rattle.lamps.specs.declared.members.Indication.TheVariants.{On, Off}
use Rattle.lamps.specs.declared.members.Timer.{Timer}
use Rattle.lamps.specs.declared.members.Gp.{Gp}
use Rattle.lamps.specs.declared.members.Gp.TheVariants.{Idle, NotifyOnRequ, NotifyOffRequ}
use Rattle.lamps.specs.declared.members.Lamp.{Lamp}
use Rattle.lamps.specs.Members.{timer_in, gp_of, is_member, dark_lamp, blank_lamp}
use Rattle.lamps.specs.Served.{start}
use Rattle.lamps.specs.Runs.{Input, endpoint_after, final}
use Rattle.lamps.specs.Clause.{Member, Happens, asked_to, replies, nothing, next, started_by, stopped_by, member_at, started_at, stopped_at, happens, clock_after, clock, TimersRun}
use Rattle.lamps.proofs.Clause.{follows_clause}
use Rattle.lamps.proofs.Along.{Good, full, good_after, good_start}

-- the clock of a member shows the timer of its state, whatever happens to it
ticks : (h : Happens) (x : Member) → clock_after (stopped_by h x) (started_by h) (timer_in x.gp) ≡ timer_in (next h x).gp
ticks (asked_to On call number) x = refl
ticks (asked_to Off call number) x = refl
ticks replies x = by x.gp
  where
    by : (g : Gp) → clock_after (timer_in g) None (timer_in g) ≡ None
    by Idle = refl
    by NotifyOnRequ = refl
    by NotifyOffRequ = refl
ticks nothing x = by x.gp
  where
    by : (g : Gp) → clock_after None None (timer_in g) ≡ timer_in g
    by Idle = refl
    by NotifyOnRequ = refl
    by NotifyOffRequ = refl

module _ (i m : ℕ) (inside : i < place_count) (who : is_member m ≡ true) where
  runs : (s : Endpoint) (st : Stays Act) → Good s st → (xs : List Input) (now : Option Timer) → now ≡ timer_in (member_at s.lamps i m).gp
      → clock s xs i m now ≡ timer_in (member_at (final s xs).lamps i m).gp
  runs s st g [] now q = q
  runs s st g (x ∷ xs) now q =
      let f = follows_clause s x (full g, g.wide) i m inside who in
      let shown : clock_after (stopped_at s x i m) (started_at s x i m) now ≡ timer_in (member_at (endpoint_after s x).lamps i m).gp =
      rw (f.stopped, f.started, q) (ticks (happens s x i m) (member_at s.lamps i m)) ∙ sym (ap (λ (y : Member). timer_in y.gp) f.state) in
      runs (endpoint_after s x) _ (good_after g x) xs (clock_after (stopped_at s x i m) (started_at s x i m) now) shown

pub timers_run : TimersRun
timers_run xs i m inside who =
    let dark : (member_at start.lamps i m).gp ≡ gp_of dark_lamp m = ap (λ (x : Lamp). gp_of x m) (get_or-replicate place_count i dark_lamp blank_lamp inside) in
    let none_pending = getD-free false 8 (m - 1) in
    runs i m inside who start none good_start xs None (sym (ap timer_in dark ∙ rw none_pending))
