-- What holds of each stay that is built event by event (`Part`, and `Whole` for an ended one) holds of every stay of a run: by the
-- invariant, the ended stays are whole and the running ones are parts.
use mathlib.Core.List.{List, [], ◌∷◌}
use Prim.Native.Nat.{ℕ}
use Rattle.stays.specs.Stays.{Done, Machine, Stay, Stays, Every, none, run, stays, all_stays, each}
use Rattle.stays.proofs.Lists.{every_append}
use Rattle.stays.proofs.Laws.{Laws}
use Rattle.stays.proofs.Part.{Part, Whole}
use Rattle.stays.proofs.Build.{Opens, Wholes}
use Rattle.stays.proofs.Keep.{inv_all}

module _ (m : Machine) (l : Laws m) where
  open m use {Event, Answer, empty}
  open l use {Core, Call}

  pub every_ended : (P : List (Done Event Answer) → Type 0) → ((xs : List (Done Event Answer)) → Whole m l xs → P xs)
      → (xss : List (List (Done Event Answer))) → Wholes m l xss → Every P xss
  every_ended P f [] w = tt
  every_ended P f (xs ∷ xss) w = (f xs w.0, every_ended P f xss w.1)

  module _ (P : List (Done Event Answer) → Type 0) (part : (p : ℕ) (c : Call) (xs : List (Done Event Answer)) (r : Core) → Part m l p c xs r → P xs)
      (end : (xs : List (Done Event Answer)) → Whole m l xs → P xs) where
    every_running : (cs : List Core) (ss : List (Stay (Done Event Answer))) → Opens m l cs ss → Every P (each ss)
    every_running cs [] os = tt
    every_running cs (s ∷ ss) os = (part s.at os.0.whose s.events _ os.0.part, every_running cs ss os.1)

    pub every_stay : (es : List Event) → Every P (all_stays m (stays m none (run m empty es)))
    every_stay es =
        let s : Stays (Done Event Answer) = stays m none (run m empty es) in
        let v = inv_all m l es in
        every_append P s.ended (each s.running) (every_ended P end s.ended v.wholes)
        (every_running v.cores s.running v.opens)
