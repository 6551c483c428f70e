-- Clause 7.1 keeps the promises of a phone: row by row.
use mathlib.Core.Path.{refl}
use mathlib.Core.Bool.{true, false}
use Rattle.clauses.specs.declared.Timer.TheVariants.{T1}
use Rattle.clauses.specs.declared.parking.State.{State}
use Rattle.clauses.specs.declared.parking.State.TheVariants.{CpIdle, CpRequested}
use Rattle.clauses.specs.declared.parking.Event.{Event}
use Rattle.clauses.specs.declared.parking.Event.TheVariants.{ParkRequest, Result, Error, PrimaryCleared, ExpiryT1}
use Rattle.clauses.specs.Phone.{Promises}
use Rattle.clauses.specs.Parking.{parking}
use Rattle.clauses.proofs.Rows.{Course, refused, done, Expiry, no_expiry, expiry_of, never, promises}

parking_course : (s : State) (e : Event) → Course parking s e
parking_course CpIdle (ParkRequest true) = done refl refl refl
parking_course CpIdle (ParkRequest false) = done refl refl refl
parking_course CpIdle Result = refused refl refl
parking_course CpIdle (Error x) = refused refl refl
parking_course CpIdle PrimaryCleared = refused refl refl
parking_course CpIdle ExpiryT1 = refused refl refl
parking_course CpRequested (ParkRequest accepted) = refused refl refl
parking_course CpRequested Result = done refl refl refl
parking_course CpRequested (Error x) = done refl refl refl
parking_course CpRequested PrimaryCleared = refused refl refl
parking_course CpRequested ExpiryT1 = done refl refl refl

parking_expires : (s : State) (e : Event) → Expiry parking s e
parking_expires s (ParkRequest accepted) = no_expiry refl
parking_expires s Result = no_expiry refl
parking_expires s (Error x) = no_expiry refl
parking_expires s PrimaryCleared = no_expiry refl
parking_expires CpIdle ExpiryT1 = expiry_of T1 refl refl never
parking_expires CpRequested ExpiryT1 = expiry_of T1 refl refl (λ h. refl)

pub parking_keeps : Promises parking
parking_keeps = promises parking refl parking_course parking_expires
