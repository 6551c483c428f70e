-- The stays of a run of the table are its one arrangement. The fold over the numbered events gives it (`Numbers`), since each accepted event may come
-- where it comes (`follows_all`); the stays are as `EachStay` has them, since without the numbers the fold is that of the run (`Forget`). What
-- `Ended` and `Running` say of a stay is enough for there to be no other (`OnlyOne`).
use mathlib.Core.Path.{◌≡◌, refl, sym, ap, ap₂, subst, ◌∙◌}
use mathlib.Core.List.{List, [], ◌∷◌, ◌++◌, map}
use Prim.Native.Nat.{ℕ, ◌≤◌}
use Rattle.table.specs.declared.Place.{Place}
use Rattle.table.specs.Places.{empty_table, place_at, index_of}
use Rattle.events.specs.declared.Event.{Event}
use Rattle.stays.specs.Stays.{Stay, Stays, Every, BeginsBy, none, stays, count, joined, stay_by_stay, all_stays, Replays, final, each}
use Rattle.stays.specs.Arranged.{Numbered, Arrangement, numbered, acts, all_of, listed}
use Rattle.stays.specs.ParkTable.{machine}
use Rattle.stays.specs.Demand.{Act, accepted_of, stays_of, IsStart, OfStay, Frees, Runs, Ended, Running, IsArranged, IsRearranged, SameStays}
use Rattle.std.proofs.lemmas.List.{map-append}
use Rattle.stays.proofs.Lists.{every_append, every_so, every_map, every_last, map_joined, joined_append}
use Rattle.stays.proofs.OnlyOne.{Tells, only_one}
use Rattle.stays.proofs.AtPlaces.{arranged}
use Rattle.stays.proofs.Numbers.{numbered_fold, ends_rise, starts_rise, same_at}
use Rattle.stays.proofs.Forget.{acts_numbered, plain, forget, forget_fold}
use Rattle.stays.proofs.Keep.{follows_all, rearranges}
use Rattle.stays.proofs.Once.{one_result}
use Rattle.stays.proofs.Same.{same_count}
use Rattle.stays.proofs.TableLaws.{laws}
use Rattle.stays.proofs.EachStay.{begins_snoc, each_stay}

-- ---- what is known of a stay

at_index : (p : Place) (call : List ℕ) (xs : List Act) → Every (OfStay p call) xs → Every (λ x. machine.place x ≡ index_of p.0) xs
at_index p call xs h = every_so (OfStay p call) (λ x. machine.place x ≡ index_of p.0) (λ x o. ap (λ (q : Place). index_of q.0) o.0) xs h

tells : Tells machine.place IsStart Ended Running
tells = record {
  ended_begins = λ xs e. subst (BeginsBy IsStart) (sym e.all) (begins_snoc e.before e.last e.runs.begins e.no_start);
  running_begins = λ xs r. r.2.begins;
  ended_place = λ xs e. (
    index_of e.place.0,
    at_index e.place e.call xs (subst (Every (OfStay e.place e.call)) (sym e.all) (every_append _ e.before (e.last ∷ []) e.runs.one (e.same, tt))),
  );
  running_place = λ xs r. (index_of r.0.0, at_index r.0 r.1 xs r.2.one);
  either = λ xs e r. every_last (λ x. Frees x → ⊥) e.before e.last (subst (Every (λ x. Frees x → ⊥)) e.all r.2.held) e.frees;
}

run_on : (ss : List (Stay Act)) → Every (λ s. (call : List ℕ) × Runs (place_at s.at) call s.events) ss → Every Running (each ss)
run_on [] h = tt
run_on (s ∷ ss) h = ((place_at s.at, h.0.0, h.0.1), run_on ss h.1)

-- ---- the arrangement

events_of : (ss : List (Stay (Numbered Act))) → map acts (each ss) ≡ each (map (plain (λ (y : Numbered Act). y.act)) ss)
events_of [] = refl
events_of (s ∷ ss) = ap (λ l. acts s.events ∷ l) (events_of ss)

module _ (es : List Event) where
  abbrev numbered_stays : Stays (Numbered Act)
  numbered_stays = numbered_fold machine.mark machine.place none (numbered (accepted_of es))

  abbrev pub made : Arrangement Act
  made = arranged numbered_stays

  -- the numbers forgotten, it is the fold
  forgotten : forget (λ (y : Numbered Act). y.act) numbered_stays ≡ stays_of es
  forgotten =
      forget_fold (λ (y : Numbered Act). y.act) machine.mark machine.place (numbered (accepted_of es)) none
      ∙ ap (stays machine none) (acts_numbered 1 (accepted_of es))

  ended_are : map acts made.ended ≡ (stays_of es).ended
  ended_are = ap (λ (s : Stays Act). s.ended) forgotten

  running_are : map acts made.running ≡ each (stays_of es).running
  running_are = events_of numbered_stays.running ∙ ap (λ (s : Stays Act). each s.running) forgotten

  all_are : map acts (all_of made) ≡ all_stays machine (stays_of es)
  all_are = map-append acts made.ended made.running ∙ ap₂ (λ (a b : List (List Act)). a ++ b) ended_are running_are

  listed_are : acts (listed made) ≡ stay_by_stay (stays_of es)
  listed_are =
      map_joined (λ (y : Numbered Act). y.act) (all_of made)
      ∙ (ap joined all_are
      ∙ joined_append (stays_of es).ended (each (stays_of es).running))

  pub is_arranged : IsArranged es made
  is_arranged = record {
    each_ended = every_map acts Ended made.ended (subst (Every Ended) (sym ended_are) (each_stay es).0);
    each_running = every_map acts Running made.running (subst (Every Running) (sym running_are) (run_on (stays_of es).running (each_stay es).1));
    by_ends = ends_rise machine.mark machine.place (accepted_of es) (follows_all machine laws es);
    by_starts = starts_rise machine.mark machine.place (accepted_of es) (follows_all machine laws es);
    same_at = same_at machine.mark machine.place (accepted_of es) (follows_all machine laws es);
  }

-- THE THEOREM
pub rearranged : IsRearranged
rearranged es = record {
  stays = made es;
  arranged = is_arranged es;
  only = λ a h. only_one tells (accepted_of es) a (made es) h (is_arranged es);
  same_events = λ f. same_count machine.place f (listed (made es)) (numbered (accepted_of es)) (is_arranged es).same_at ∙ ap (count f) (acts_numbered 1 (accepted_of es));
  again = subst (λ xs. Replays machine empty_table xs (final machine empty_table es)) (sym (listed_are es)) (rearranges machine laws es);
  one_result =
      every_map acts (λ xs. count machine.result xs ≤ 1) (all_of (made es))
      (subst (Every (λ xs. count machine.result xs ≤ 1)) (sym (all_are es)) (one_result machine laws es));
}

pub same_stays : SameStays
same_stays es r =
    let same : r.stays ≡ made es = sym (r.only (made es) (is_arranged es)) in
    (ap (λ (a : Arrangement Act). map acts a.ended) same ∙ ended_are es, ap (λ (a : Arrangement Act). map acts a.running) same ∙ running_are es)
