-- The refusals (document 01, "Refusal numbers"; document 02, Q-3), in the order in which they are checked: the paper's number of each, and the
-- message that goes with it.
use Rattle.std.specs.Prelude.{ℕ, Option, Some, None}
use Rattle.table.specs.declared.Connection.{Connection}
use Rattle.table.specs.declared.Side.TheVariants.{Position, Line}
use Rattle.events.specs.declared.rule.Rule.{Rule}
use Rattle.events.specs.declared.rule.Rule.TheVariants.{Start, On}
use Rattle.events.specs.declared.rule.Signal.TheVariants.{LocalPickup, PickRequest, PickupResult, PickupError, ErrorInRelease, Release, Answered, Expiry}
use Rattle.events.specs.declared.message.Message.{Message}
use Rattle.events.specs.declared.message.Message.TheVariants.{ParkError, PickError}
use Rattle.events.specs.declared.message.ErrorValue.TheVariants.{Undefined, CallAlreadyPickedUp}
use Rattle.events.specs.declared.refusal.Refusal.{Refusal}
use Rattle.events.specs.declared.refusal.Refusal.TheVariants.{UnknownKind, ChoiceOrTimer, CallHeld, SideFull, CallNotHeld, NothingWaits, PickupHere, PickupElsewhere, CallHandedOver, StateUnfit, NotOutstanding, TimerNotRunning, TableUnsound}

abbrev pub refusal_number : Refusal → ℕ
refusal_number UnknownKind = 1
refusal_number ChoiceOrTimer = 2
refusal_number CallHeld = 3
refusal_number SideFull = 4
refusal_number CallNotHeld = 5
refusal_number NothingWaits = 6
refusal_number PickupHere = 7
refusal_number PickupElsewhere = 11
refusal_number CallHandedOver = 12
refusal_number StateUnfit = 8
refusal_number NotOutstanding = 9
refusal_number TimerNotRunning = 10
refusal_number TableUnsound = 25

-- "a park refused by 3 or 4 has message 2, error 1"
abbrev pub park_refused : Refusal → Option Message
park_refused UnknownKind = None
park_refused ChoiceOrTimer = None
park_refused CallHeld = Some ParkError
park_refused SideFull = Some ParkError
park_refused CallNotHeld = None
park_refused NothingWaits = None
park_refused PickupHere = None
park_refused PickupElsewhere = None
park_refused CallHandedOver = None
park_refused StateUnfit = None
park_refused NotOutstanding = None
park_refused TimerNotRunning = None
park_refused TableUnsound = None

-- "a pickrequ refused by 2, 5, 6 or 7 has message 6, the event's connection and its error": 1, "but 2 with refusal 7". Q-3: with 11 and 12 as
-- with 7
abbrev pub pick_request_refused : Refusal → Connection → Option Message
pick_request_refused UnknownKind c = None
pick_request_refused ChoiceOrTimer c = Some (PickError c Undefined)
pick_request_refused CallHeld c = None
pick_request_refused SideFull c = None
pick_request_refused CallNotHeld c = Some (PickError c Undefined)
pick_request_refused NothingWaits c = Some (PickError c Undefined)
pick_request_refused PickupHere c = Some (PickError c CallAlreadyPickedUp)
pick_request_refused PickupElsewhere c = Some (PickError c CallAlreadyPickedUp)
pick_request_refused CallHandedOver c = Some (PickError c CallAlreadyPickedUp)
pick_request_refused StateUnfit c = None
pick_request_refused NotOutstanding c = None
pick_request_refused TimerNotRunning c = None
pick_request_refused TableUnsound c = None

abbrev pub refusal_message : Option Rule → Refusal → Connection → Option Message
refusal_message (Some (Start Position)) w c = park_refused w
refusal_message (Some (Start Line)) w c = None
refusal_message (Some (On LocalPickup)) w c = None
refusal_message (Some (On PickRequest)) w c = pick_request_refused w c
refusal_message (Some (On PickupResult)) w c = None
refusal_message (Some (On PickupError)) w c = None
refusal_message (Some (On ErrorInRelease)) w c = None
refusal_message (Some (On Release)) w c = None
refusal_message (Some (On Answered)) w c = None
refusal_message (Some (On Expiry)) w c = None
refusal_message None w c = None
