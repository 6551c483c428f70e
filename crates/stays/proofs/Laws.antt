-- What a machine has to give so that its stays can be told one by one: what one turn does at one place, what a table shows at its
-- places, and that an accepted step is a turn at its place (`taken`), which is done again in every table that shows the same there and
-- has the call nowhere else (`again`).
use mathlib.Core.Path.{◌≡◌}
use mathlib.Core.Logic.{◌≢◌}
use mathlib.Core.Bool.{true, false}
use mathlib.Core.List.{List, []}
use Prim.Native.Nat.{ℕ, ◌<◌}
use lib.ListN.{length, get_or, set, replicate}
use Rattle.stays.specs.Stays.{starts, goes_on, ends, Done, Machine, done}
use Rattle.stays.proofs.Places.{arrange}

pub record Laws (m : Machine) : Type 1 where
  -- ---- one place by itself
  pub Core : Type 0
  pub Call : Type 0
  pub size : ℕ
  pub free : Core
  pub call : Done m.Event m.Answer → Call
  pub Holds : Core → Call → Type 0
  -- at this place and from this record the event, as named, is accepted with its answer, and the record after it is the second
  pub Turn : ℕ → Core → Done m.Event m.Answer → Core → Type 0
  -- from here on the stay has no pickup result
  pub Spent : Core → Type 0
  pub free_holds : (c : Call) → ¬ Holds free c
  pub one_call : {r : Core} {c d : Call} → Holds r c → Holds r d → c ≡ d
  pub inside : {p : ℕ} {r s : Core} {x : Done m.Event m.Answer} → Turn p r x s → p < size
  pub agrees : {p : ℕ} {r s : Core} {x : Done m.Event m.Answer} → Turn p r x s → m.accepted x.answer ≡ true
  pub at_start : {p : ℕ} {r s : Core} {x : Done m.Event m.Answer} → Turn p r x s → m.mark x ≡ starts → (r ≡ free) × Holds s (call x) × (m.result x ≡ false)
  pub at_going : {p : ℕ} {r s : Core} {x : Done m.Event m.Answer} → Turn p r x s → m.mark x ≡ goes_on → Holds r (call x) × Holds s (call x)
  pub at_end : {p : ℕ} {r s : Core} {x : Done m.Event m.Answer} → Turn p r x s → m.mark x ≡ ends → Holds r (call x) × (s ≡ free)
  pub spends : {p : ℕ} {r s : Core} {x : Done m.Event m.Answer} → Turn p r x s → m.mark x ≡ goes_on → m.result x ≡ true → Spent s
  pub stays_spent : {p : ℕ} {r s : Core} {x : Done m.Event m.Answer} → Turn p r x s → m.mark x ≡ goes_on → Spent r → (m.result x ≡ false) × Spent s
  pub ends_spent : {p : ℕ} {r s : Core} {x : Done m.Event m.Answer} → Turn p r x s → m.mark x ≡ ends → Spent r → m.result x ≡ false
  -- ---- the table: what it shows at its places, and the places in use in the order of their starts
  pub Shows : m.Table → List Core → List ℕ → Type 0
  pub shows_empty : Shows m.empty (replicate size free) []
  pub shows_size : {t : m.Table} {cs : List Core} {o : List ℕ} → Shows t cs o → length cs ≡ size
  pub shows_one : {t : m.Table} {cs : List Core} {o : List ℕ} → Shows t cs o → (i j : ℕ) (c : Call) → Holds (get_or cs i free) c → Holds (get_or cs j free) c → i ≡ j
  pub shows_same : {t u : m.Table} {cs : List Core} {o : List ℕ} → Shows t cs o → Shows u cs o → t ≡ u
  -- ---- a step
  pub refused : {t : m.Table} {cs : List Core} {o : List ℕ} → Shows t cs o → (e : m.Event) → m.accepted (m.answer t e) ≡ false → m.next t e ≡ t
  pub taken : {t : m.Table} {cs : List Core} {o : List ℕ} → Shows t cs o → (e : m.Event) → m.accepted (m.answer t e) ≡ true
      → (s : Core) × Turn (m.place (done m t e)) (get_or cs (m.place (done m t e)) free) (done m t e) s × Shows (m.next t e) (set cs (m.place (done m t e)) s) (arrange (m.mark (done m t e)) (m.place (done m t e)) o)
  pub again : {t : m.Table} {cs : List Core} {o : List ℕ} → Shows t cs o → {p : ℕ} {s : Core} {x : Done m.Event m.Answer} → Turn p (get_or cs p free) x s
      → ((j : ℕ) → j ≢ p → ¬ Holds (get_or cs j free) (call x))
      → (m.answer t x.event ≡ x.answer) × Shows (m.next t x.event) (set cs p s) (arrange (m.mark x) p o)
