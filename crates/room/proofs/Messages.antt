-- What goes out with an event: connections that the place or the event had, invokes of 16 bits, and of two messages one that carries neither.
-- By the cases of `Does`. What is shown of connections holds of any property that 0 has: with none for `answers_light`, with the
-- bound of 16 bits for the lengths.
use mathlib.Core.Path.{◌≡◌, refl}
use mathlib.Core.Logic.{◌⊎◌, inl, inr}
use Prim.Native.Nat.{ℕ, ◌≤◌}
use native.Mathlib.Omega.{arith}
use lib.Dec.{lit≤}
use Rattle.std.specs.Prelude.{Option, Some, None, Result, Ok, Err, IfOk}
use Rattle.table.specs.declared.Connection.{Connection}
use Rattle.table.specs.declared.Invoke.{Invoke}
use Rattle.table.specs.declared.State.{State}
use Rattle.table.specs.declared.State.TheVariants.{Free, ParkWaiting, LineWaiting, Requested, RemoteRequested, HandedOver}
use Rattle.table.specs.declared.Side.{Side}
use Rattle.table.specs.declared.Side.TheVariants.{Position, Line}
use Rattle.table.specs.declared.Record.{Record}
use Rattle.table.specs.Places.{no_connection, no_invoke}
use Rattle.events.specs.declared.Event.{Event}
use Rattle.events.specs.declared.rule.Rule.{Rule}
use Rattle.events.specs.declared.rule.Signal.{Signal}
use Rattle.events.specs.declared.message.Message.{Message}
use Rattle.events.specs.declared.message.Message.TheVariants.{ParkResult, ParkError, Connect, Facility, PickResult, PickError, ReleaseComplete}
use Rattle.events.specs.declared.message.Sent.{Sent}
use Rattle.events.specs.declared.message.ErrorValue.TheVariants.{Undefined}
use Rattle.events.specs.declared.turn.Stage.{Stage}
use Rattle.events.specs.declared.turn.Stage.TheVariants.{Waits, AskedHere, AskedFrom, Taken}
use Rattle.events.specs.declared.turn.Outcome.{Outcome}
use Rattle.events.specs.declared.turn.Outcome.TheVariants.{Freed, Becomes}
use Rattle.events.specs.declared.refusal.Refusal.{Refusal}
use Rattle.events.specs.Message.{sent}
use Rattle.events.specs.Turn.{stage_by, stage_of, greeting, up, turn_on}
use Rattle.events.proofs.Refusals.{Tells, nothing, parker, picker}
use Rattle.events.proofs.Outcomes.{GoesOn, asked_here, asked_from, handed_over, turned_down, Ends, freed, cut_off, freed_and_told, cut_off_and_told, Does, does}
use Rattle.room.specs.Room.{Bare}

-- connection and invoke are never both set in one message
never_both : (m : Option Message) → ((sent m).connection ≡ no_connection) ⊎ ((sent m).invoke ≡ no_invoke)
never_both None = inl refl
never_both (Some ParkResult) = inl refl
never_both (Some ParkError) = inl refl
never_both (Some (Connect n)) = inl refl
never_both (Some (Facility n)) = inl refl
never_both (Some (PickResult c)) = inr refl
never_both (Some (PickError c x)) = inr refl
never_both (Some ReleaseComplete) = inl refl

pub nothing_bare : Bare (sent None)
nothing_bare = record { connection = refl; invoke = refl }

release_bare : Bare (sent (Some ReleaseComplete))
release_bare = record { connection = refl; invoke = refl }

-- a message whose connection has a property, whose invoke has 16 bits, and in which one of the two is not set
pub record Within (P : ℕ → Type 0) (x : Sent) : Type 0 where
  pub connection : P x.connection.0
  pub invoke : x.invoke.0 ≤ 65535
  pub one_unset : (x.connection ≡ no_connection) ⊎ (x.invoke ≡ no_invoke)

module _ (P : ℕ → Type 0) (at_0 : P 0) where
  abbrev Sends : Option Message → Type 0
  Sends m = Within P (sent m)

  sends : (m : Option Message) → P (sent m).connection.0 → (sent m).invoke.0 ≤ 65535 → Sends m
  sends m c n = record { connection = c; invoke = n; one_unset = never_both m }

  pub nothing_sent : Sends None
  nothing_sent = sends None at_0 (lit≤ tt)

  pub greeting_sent : (d : Side) → Sends (greeting d)
  greeting_sent Position = sends (Some ParkResult) at_0 (lit≤ tt)
  greeting_sent Line = nothing_sent

  -- ---- with a refusal

  pub refusal_sent : (c : Connection) (k : Option Rule) (m : Option Message) → P c.0 → Tells c k m → Sends m
  refusal_sent c k m h nothing = nothing_sent
  refusal_sent c k m h parker = sends (Some ParkError) at_0 (lit≤ tt)
  refusal_sent c k m h (picker x) = sends (Some (PickError c x)) h (lit≤ tt)

  -- ---- with what is done at a place

  abbrev pub Turns : Outcome → Type 0
  Turns (Freed first second) = Sends first × Sends second × (Bare (sent first) ⊎ Bare (sent second))
  Turns (Becomes g n m) = Sends m

  -- the connection that a stage has
  abbrev Asked : Stage → Type 0
  Asked Waits = Unit {0}
  Asked AskedHere = Unit {0}
  Asked (AskedFrom c) = P c.0
  Asked Taken = Unit {0}

  asked_by : (s : State) (c : Connection) → P c.0 → Asked (stage_by s c)
  asked_by Free c h = tt
  asked_by ParkWaiting c h = tt
  asked_by LineWaiting c h = tt
  asked_by Requested c h = tt
  asked_by RemoteRequested c h = h
  asked_by HandedOver c h = tt

  module _ (a : Side) (r : Record) (e : Event) (h : P r.connection.0) where
    -- a connection that the stage has is the record's
    asked : (c : Connection) → stage_of r ≡ AskedFrom c → P c.0
    asked c w = rw w at (asked_by r.state r.connection h)

    pub turns : (k : Signal) → IfOk (turn_on k a r e) Turns
    turns k = by (turn_on k a r e) (does k a r e)
      where
        on : (g : Stage) (n : Invoke) (m : Option Message) → GoesOn k r e g n m → Sends m
        on g n m (asked_here x w) = sends (Some (Connect (up r.count))) at_0 (omega arith)
        on g n m (asked_from x w) = sends (Some (Facility (up r.count))) at_0 (omega arith)
        on g n m (handed_over c w) = sends (Some (PickResult c)) (asked c w) (lit≤ tt)
        on g n m (turned_down x c w) = sends (Some (PickError c Undefined)) (asked c w) (lit≤ tt)

        end : (first second : Option Message) → Ends r first second → Turns (Freed first second)
        end first second (freed w) = (nothing_sent, nothing_sent, inr nothing_bare)
        end first second (cut_off w) = (sends (Some ReleaseComplete) at_0 (lit≤ tt), nothing_sent, inr nothing_bare)
        end first second (freed_and_told c w) = (sends (Some (PickError c Undefined)) (asked c w) (lit≤ tt), nothing_sent, inr nothing_bare)
        end first second (cut_off_and_told c w) = (sends (Some ReleaseComplete) at_0 (lit≤ tt), sends (Some (PickError c Undefined)) (asked c w) (lit≤ tt), inl release_bare)

        by : (u : Result Outcome Refusal) → Does k r e u → IfOk u Turns
        by (Err w) x = tt
        by (Ok (Becomes g n m)) x = on g n m x
        by (Ok (Freed first second)) x = end first second x
