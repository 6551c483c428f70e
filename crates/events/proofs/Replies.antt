-- A call in state 4 has a picker who waits for a reply: a signal that is accepted there sends just one, to that picker, and takes the call out
-- of that state. At a call in another state no signal sends a reply.
use Rattle.std.proofs.Common.{◌≡◌, false, sym, refl, ap, ◌∙◌, true≢false}
use mathlib.Core.Bool.{false≢true}
use Rattle.table.specs.declared.Connection.{Connection}
use Rattle.table.specs.declared.Invoke.{Invoke}
use Rattle.table.specs.declared.State.{State}
use Rattle.table.specs.declared.State.TheVariants.{Free, ParkWaiting, LineWaiting, Requested, RemoteRequested, HandedOver}
use Rattle.table.specs.declared.Side.{Side}
use Rattle.table.specs.declared.Record.{Record}
use Rattle.events.specs.declared.Event.{Event}
use Rattle.events.specs.declared.rule.Signal.{Signal}
use Rattle.events.specs.declared.message.Message.{Message}
use Rattle.events.specs.declared.message.Message.TheVariants.{PickResult, PickError, ReleaseComplete}
use Rattle.events.specs.declared.message.ErrorValue.TheVariants.{Undefined}
use Rattle.std.specs.Prelude.{Option, Some, None, Result, Ok, Err}
use Rattle.events.specs.declared.refusal.Refusal.{Refusal}
use Rattle.events.specs.declared.turn.Stage.{Stage}
use Rattle.events.specs.declared.turn.Stage.TheVariants.{AskedFrom}
use Rattle.events.specs.declared.turn.Outcome.{Outcome}
use Rattle.events.specs.declared.turn.Outcome.TheVariants.{Freed, Becomes}
use Rattle.events.specs.Message.{sent}
use Rattle.events.specs.Turn.{stage_by, stage_of, turn_on}
use Rattle.events.specs.Reply.{replies, RepliesOnce}
use Rattle.events.proofs.Outcomes.{is_out, GoesOn, asked_here, asked_from, handed_over, turned_down, Ends, freed, cut_off, freed_and_told, cut_off_and_told, Does, does}

-- what an outcome at a call in state 4 does: it is a refusal, or sends one reply, and the picker waits no longer
abbrev pub Told : Connection → Result Outcome Refusal → Type 0
Told c (Err w) = Unit {0}
Told c (Ok (Freed first second)) = RepliesOnce c (sent first) (sent second)
Told c (Ok (Becomes g n m)) = RepliesOnce c (sent m) (sent None) × (is_out g ≡ false)

-- and at any other call: it sends none
abbrev pub Silent : Result Outcome Refusal → Type 0
Silent (Err w) = Unit {0}
Silent (Ok (Freed first second)) = replies (sent first) (sent second) ≡ 0
Silent (Ok (Becomes g n m)) = replies (sent m) (sent None) ≡ 0

module _ (c : Connection) where
  result_first : RepliesOnce c (sent (Some (PickResult c))) (sent None)
  result_first = record { once = refl; first_there = λ h. refl; second_there = λ h. absurd (false≢true h) }

  error_first : RepliesOnce c (sent (Some (PickError c Undefined))) (sent None)
  error_first = record { once = refl; first_there = λ h. refl; second_there = λ h. absurd (false≢true h) }

  error_second : RepliesOnce c (sent (Some ReleaseComplete)) (sent (Some (PickError c Undefined)))
  error_second = record { once = refl; first_there = λ h. absurd (false≢true h); second_there = λ h. refl }

-- IN STATE 4
pub told : (k : Signal) (a : Side) (r : Record) (e : Event) → r.state ≡ RemoteRequested → Told r.connection (turn_on k a r e)
told k a r e q = by (turn_on k a r e) (does k a r e)
  where
    out : stage_of r ≡ AskedFrom r.connection
    out = ap (λ s. stage_by s r.connection) q

    -- the picker of the stage is that of the record
    same : (c : Connection) → stage_of r ≡ AskedFrom c → c ≡ r.connection
    same c w = cc (sym w ∙ out)

    never : is_out (stage_of r) ≡ false → ⊥
    never w = true≢false (sym (ap is_out out) ∙ w)

    on : (g : Stage) (n : Invoke) (m : Option Message) → GoesOn k r e g n m → RepliesOnce r.connection (sent m) (sent None) × (is_out g ≡ false)
    on g n m (asked_here x w) = absurd (never (ap is_out w))
    on g n m (asked_from x w) = absurd (never (ap is_out w))
    on g n m (handed_over c w) = rw (same c w) (result_first r.connection, refl)
    on g n m (turned_down x c w) = rw (same c w) (error_first r.connection, refl)

    end : (first second : Option Message) → Ends r first second → RepliesOnce r.connection (sent first) (sent second)
    end first second (freed w) = absurd (never w)
    end first second (cut_off w) = absurd (never w)
    end first second (freed_and_told c w) = rw (same c w) (error_first r.connection)
    end first second (cut_off_and_told c w) = rw (same c w) (error_second r.connection)

    by : (u : Result Outcome Refusal) → Does k r e u → Told r.connection u
    by (Err w) x = tt
    by (Ok (Becomes g n m)) x = on g n m x
    by (Ok (Freed first second)) x = end first second x

out_in_4 : (s : State) (c : Connection) → (s ≡ RemoteRequested → ⊥) → is_out (stage_by s c) ≡ false
out_in_4 Free c h = refl
out_in_4 ParkWaiting c h = refl
out_in_4 LineWaiting c h = refl
out_in_4 Requested c h = refl
out_in_4 RemoteRequested c h = absurd (h refl)
out_in_4 HandedOver c h = refl

-- IN ANY OTHER STATE
pub silent : (k : Signal) (a : Side) (r : Record) (e : Event) → (r.state ≡ RemoteRequested → ⊥) → Silent (turn_on k a r e)
silent k a r e h = by (turn_on k a r e) (does k a r e)
  where
    never : (c : Connection) → stage_of r ≡ AskedFrom c → ⊥
    never c w = true≢false (sym (ap is_out w) ∙ out_in_4 r.state r.connection h)

    on : (g : Stage) (n : Invoke) (m : Option Message) → GoesOn k r e g n m → replies (sent m) (sent None) ≡ 0
    on g n m (asked_here x w) = refl
    on g n m (asked_from x w) = refl
    on g n m (handed_over c w) = absurd (never c w)
    on g n m (turned_down x c w) = absurd (never c w)

    end : (first second : Option Message) → Ends r first second → replies (sent first) (sent second) ≡ 0
    end first second (freed w) = refl
    end first second (cut_off w) = refl
    end first second (freed_and_told c w) = absurd (never c w)
    end first second (cut_off_and_told c w) = absurd (never c w)

    by : (u : Result Outcome Refusal) → Does k r e u → Silent u
    by (Err w) x = tt
    by (Ok (Becomes g n m)) x = on g n m x
    by (Ok (Freed first second)) x = end first second x
