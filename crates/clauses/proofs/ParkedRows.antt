-- Clause 7.2 keeps the promises of a phone: row by row.
use mathlib.Core.Path.{refl}
use Rattle.std.specs.Prelude.{Ok, Err}
use Rattle.clauses.specs.declared.Timer.TheVariants.{T2, T10}
use Rattle.clauses.specs.declared.parked.State.{State}
use Rattle.clauses.specs.declared.parked.State.TheVariants.{CpIdle, CpSetupRequ, CpickupSetupInit}
use Rattle.clauses.specs.declared.parked.Event.{Event}
use Rattle.clauses.specs.declared.parked.Event.TheVariants.{Request, SetupResult, SetupError, PrimaryCleared, HeldCleared, LocalPickup, RemotePickup, ExecuteResult, ExecuteError, ExecuteErrorInRelease, PickerCleared, PlainConnect, ExpiryT2, ExpiryT10}
use Rattle.clauses.specs.Phone.{Promises}
use Rattle.clauses.specs.Parked.{parked}
use Rattle.clauses.proofs.Rows.{Course, refused, done, Expiry, no_expiry, expiry_of, never, promises}

parked_course : (s : State) (e : Event) → Course parked s e
parked_course CpIdle (Request (Ok _)) = done refl refl refl
parked_course CpIdle (Request (Err x)) = done refl refl refl
parked_course CpIdle SetupResult = refused refl refl
parked_course CpIdle (SetupError x) = refused refl refl
parked_course CpIdle PrimaryCleared = refused refl refl
parked_course CpIdle HeldCleared = done refl refl refl
parked_course CpIdle (LocalPickup (Ok _)) = done refl refl refl
parked_course CpIdle (LocalPickup (Err x)) = done refl refl refl
parked_course CpIdle (RemotePickup (Ok _)) = done refl refl refl
parked_course CpIdle (RemotePickup (Err x)) = done refl refl refl
parked_course CpIdle ExecuteResult = refused refl refl
parked_course CpIdle (ExecuteError x) = refused refl refl
parked_course CpIdle (ExecuteErrorInRelease x) = refused refl refl
parked_course CpIdle PickerCleared = refused refl refl
parked_course CpIdle PlainConnect = refused refl refl
parked_course CpIdle ExpiryT2 = refused refl refl
parked_course CpIdle ExpiryT10 = refused refl refl
parked_course CpSetupRequ (Request d) = refused refl refl
parked_course CpSetupRequ SetupResult = done refl refl refl
parked_course CpSetupRequ (SetupError x) = done refl refl refl
parked_course CpSetupRequ PrimaryCleared = done refl refl refl
parked_course CpSetupRequ HeldCleared = done refl refl refl
parked_course CpSetupRequ (LocalPickup d) = refused refl refl
parked_course CpSetupRequ (RemotePickup d) = refused refl refl
parked_course CpSetupRequ ExecuteResult = refused refl refl
parked_course CpSetupRequ (ExecuteError x) = refused refl refl
parked_course CpSetupRequ (ExecuteErrorInRelease x) = refused refl refl
parked_course CpSetupRequ PickerCleared = refused refl refl
parked_course CpSetupRequ PlainConnect = refused refl refl
parked_course CpSetupRequ ExpiryT2 = done refl refl refl
parked_course CpSetupRequ ExpiryT10 = refused refl refl
parked_course CpickupSetupInit (Request d) = refused refl refl
parked_course CpickupSetupInit SetupResult = refused refl refl
parked_course CpickupSetupInit (SetupError x) = refused refl refl
parked_course CpickupSetupInit PrimaryCleared = refused refl refl
parked_course CpickupSetupInit HeldCleared = refused refl refl
parked_course CpickupSetupInit (LocalPickup d) = refused refl refl
parked_course CpickupSetupInit (RemotePickup d) = refused refl refl
parked_course CpickupSetupInit ExecuteResult = done refl refl refl
parked_course CpickupSetupInit (ExecuteError x) = done refl refl refl
parked_course CpickupSetupInit (ExecuteErrorInRelease x) = done refl refl refl
parked_course CpickupSetupInit PickerCleared = refused refl refl
parked_course CpickupSetupInit PlainConnect = refused refl refl
parked_course CpickupSetupInit ExpiryT2 = refused refl refl
parked_course CpickupSetupInit ExpiryT10 = done refl refl refl

parked_expires : (s : State) (e : Event) → Expiry parked s e
parked_expires s (Request d) = no_expiry refl
parked_expires s SetupResult = no_expiry refl
parked_expires s (SetupError x) = no_expiry refl
parked_expires s PrimaryCleared = no_expiry refl
parked_expires s HeldCleared = no_expiry refl
parked_expires s (LocalPickup d) = no_expiry refl
parked_expires s (RemotePickup d) = no_expiry refl
parked_expires s ExecuteResult = no_expiry refl
parked_expires s (ExecuteError x) = no_expiry refl
parked_expires s (ExecuteErrorInRelease x) = no_expiry refl
parked_expires s PickerCleared = no_expiry refl
parked_expires s PlainConnect = no_expiry refl
parked_expires CpIdle ExpiryT2 = expiry_of T2 refl refl never
parked_expires CpSetupRequ ExpiryT2 = expiry_of T2 refl refl (λ h. refl)
parked_expires CpickupSetupInit ExpiryT2 = expiry_of T2 refl refl never
parked_expires CpIdle ExpiryT10 = expiry_of T10 refl refl never
parked_expires CpSetupRequ ExpiryT10 = expiry_of T10 refl refl never
parked_expires CpickupSetupInit ExpiryT10 = expiry_of T10 refl refl (λ h. refl)

pub parked_keeps : Promises parked
parked_keeps = promises parked refl parked_course parked_expires
