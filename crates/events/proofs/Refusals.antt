-- The refusals, gone through once: the range of their numbers, what goes out with them, and those of a call that is taken, which go by its state
-- and are alike on the wire.
use Rattle.std.proofs.Common.{◌≡◌, ◌≤◌, refl, arith, lit≤}
use Rattle.laws.proofs.Bools.{never}
use Rattle.table.specs.declared.Connection.{Connection}
use Rattle.table.specs.declared.State.TheVariants.{Free, ParkWaiting, LineWaiting, Requested, RemoteRequested, HandedOver}
use Rattle.table.specs.declared.Side.TheVariants.{Position, Line}
use Rattle.std.specs.Prelude.{Option, Some, None}
use Rattle.events.specs.declared.rule.Rule.{Rule}
use Rattle.events.specs.declared.rule.Rule.TheVariants.{Start, On}
use Rattle.events.specs.declared.rule.Signal.TheVariants.{LocalPickup, PickRequest, PickupResult, PickupError, ErrorInRelease, Release, Answered, Expiry}
use Rattle.events.specs.declared.message.Message.{Message}
use Rattle.events.specs.declared.message.Message.TheVariants.{ParkError, PickError}
use Rattle.events.specs.declared.message.ErrorValue.{ErrorValue}
use Rattle.events.specs.declared.refusal.Refusal.{Refusal}
use Rattle.events.specs.declared.refusal.Refusal.TheVariants.{UnknownKind, ChoiceOrTimer, CallHeld, SideFull, CallNotHeld, NothingWaits, PickupHere, PickupElsewhere, CallHandedOver, StateUnfit, NotOutstanding, TimerNotRunning, TableUnsound}
use Rattle.events.specs.Refusal.{refusal_number, park_refused, pick_request_refused, refusal_message}
use Rattle.events.specs.Taken.{PickupNumbered, TakenAlike}

-- ---- the numbers

pub record Numbered (w : Refusal) : Type 0 where
  pub from : 1 ≤ refusal_number w
  pub to : refusal_number w ≤ 25

pub numbered : (w : Refusal) → Numbered w
numbered UnknownKind = record { from = lit≤ tt; to = lit≤ tt }
numbered ChoiceOrTimer = record { from = lit≤ tt; to = lit≤ tt }
numbered CallHeld = record { from = lit≤ tt; to = lit≤ tt }
numbered SideFull = record { from = lit≤ tt; to = lit≤ tt }
numbered CallNotHeld = record { from = lit≤ tt; to = lit≤ tt }
numbered NothingWaits = record { from = lit≤ tt; to = lit≤ tt }
numbered PickupHere = record { from = lit≤ tt; to = lit≤ tt }
numbered PickupElsewhere = record { from = lit≤ tt; to = lit≤ tt }
numbered CallHandedOver = record { from = lit≤ tt; to = lit≤ tt }
numbered StateUnfit = record { from = lit≤ tt; to = lit≤ tt }
numbered NotOutstanding = record { from = lit≤ tt; to = lit≤ tt }
numbered TimerNotRunning = record { from = lit≤ tt; to = lit≤ tt }
numbered TableUnsound = record { from = lit≤ tt; to = lit≤ tt }

-- no refusal has the number of an accepted event
pub refused_not_0 : (w : Refusal) → refusal_number w ≡ 0 → ⊥
refused_not_0 w h = omega (arith, (numbered w).from)

-- ---- what goes out

-- nothing, or an error to whoever parks or asks from elsewhere
pub data Tells (c : Connection) : Option Rule → Option Message → Type 0 where
  nothing : {k : Option Rule} → Tells c k None
  parker : Tells c (Some (Start Position)) (Some ParkError)
  picker : (x : ErrorValue) → Tells c (Some (On PickRequest)) (Some (PickError c x))

module _ (c : Connection) where
  tells_parker : (w : Refusal) → Tells c (Some (Start Position)) (park_refused w)
  tells_parker UnknownKind = nothing
  tells_parker ChoiceOrTimer = nothing
  tells_parker CallHeld = parker
  tells_parker SideFull = parker
  tells_parker CallNotHeld = nothing
  tells_parker NothingWaits = nothing
  tells_parker PickupHere = nothing
  tells_parker PickupElsewhere = nothing
  tells_parker CallHandedOver = nothing
  tells_parker StateUnfit = nothing
  tells_parker NotOutstanding = nothing
  tells_parker TimerNotRunning = nothing
  tells_parker TableUnsound = nothing

  tells_picker : (w : Refusal) → Tells c (Some (On PickRequest)) (pick_request_refused w c)
  tells_picker UnknownKind = nothing
  tells_picker ChoiceOrTimer = picker _
  tells_picker CallHeld = nothing
  tells_picker SideFull = nothing
  tells_picker CallNotHeld = picker _
  tells_picker NothingWaits = picker _
  tells_picker PickupHere = picker _
  tells_picker PickupElsewhere = picker _
  tells_picker CallHandedOver = picker _
  tells_picker StateUnfit = nothing
  tells_picker NotOutstanding = nothing
  tells_picker TimerNotRunning = nothing
  tells_picker TableUnsound = nothing

  pub tells : (k : Option Rule) (w : Refusal) → Tells c k (refusal_message k w c)
  tells (Some (Start Position)) w = tells_parker w
  tells (Some (Start Line)) w = nothing
  tells (Some (On LocalPickup)) w = nothing
  tells (Some (On PickRequest)) w = tells_picker w
  tells (Some (On PickupResult)) w = nothing
  tells (Some (On PickupError)) w = nothing
  tells (Some (On ErrorInRelease)) w = nothing
  tells (Some (On Release)) w = nothing
  tells (Some (On Answered)) w = nothing
  tells (Some (On Expiry)) w = nothing
  tells None w = nothing

-- ---- a call that is taken

pub pickup_numbered : PickupNumbered
pickup_numbered Free c to n m = refl
pickup_numbered ParkWaiting c to n m = refl
pickup_numbered LineWaiting c to n m = refl
pickup_numbered Requested c to n m = refl
pickup_numbered RemoteRequested c to n m = refl
pickup_numbered HandedOver c to n m = refl

pub taken_alike : TakenAlike
taken_alike UnknownKind c h = never h
taken_alike ChoiceOrTimer c h = never h
taken_alike CallHeld c h = never h
taken_alike SideFull c h = never h
taken_alike CallNotHeld c h = never h
taken_alike NothingWaits c h = never h
taken_alike PickupHere c h = refl
taken_alike PickupElsewhere c h = refl
taken_alike CallHandedOver c h = refl
taken_alike StateUnfit c h = never h
taken_alike NotOutstanding c h = never h
taken_alike TimerNotRunning c h = never h
taken_alike TableUnsound c h = never h
