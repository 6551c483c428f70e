-- What a stay is like: it begins with its park or alert, all its answers name one place and one call, and only the last event of an
-- ended one frees the place. A stay is built event by event (`Part`, then `Whole`); each turn has its facts, and they are put together
-- at the end of the list.
use mathlib.Core.Path.{◌≡◌, refl, sym, ◌∙◌}
use mathlib.Core.Bool.{Bool, true, false, cond}
use mathlib.Core.List.{List, [], ◌∷◌, ◌++◌}
use Prim.Native.Nat.{ℕ}
use lib.Dec.{eqb}
use borrow.Author.Tests.{eq-eqb}
use Rattle.std.specs.Prelude.{Option, Some, None}
use Rattle.laws.proofs.Bools.{not_both}
use Rattle.table.specs.declared.Side.{Side}
use Rattle.table.specs.declared.Record.{Record}
use Rattle.table.specs.Places.{state_number, place_at}
use Rattle.table.specs.Search.{holds}
use Rattle.table.proofs.Calls.{holds_occupied}
use Rattle.events.specs.declared.Event.{Event}
use Rattle.events.specs.declared.Answer.{Answer}
use Rattle.events.specs.declared.rule.Rule.{Rule}
use Rattle.events.specs.declared.rule.Rule.TheVariants.{Start, On}
use Rattle.events.specs.Rule.{rule_of}
use Rattle.stays.specs.Stays.{starts, goes_on, ends, Stay, Every}
use Rattle.stays.specs.ParkTable.{mark_by, machine}
use Rattle.stays.specs.Demand.{Act, stays_of, IsStart, Begins, OfStay, Frees, Runs, Ended, EachStay}
use Rattle.stays.proofs.Part.{Part, begun, onward, Whole, whole}
use Rattle.stays.proofs.Build.{Opens}
use Rattle.stays.proofs.Keep.{inv_all}
use Rattle.stays.proofs.Lists.{every_append}
use Rattle.stays.proofs.Every.{every_ended}
use Rattle.stays.proofs.Turned.{Turned, opened, closed, carried, starts≢goes, starts≢ends, start_mark, at_start, at_going}
use Rattle.stays.proofs.TableLaws.{laws}

-- ---- lists that grow at their end

pub begins_snoc : (xs : List Act) (x : Act) → Begins xs → (IsStart x → ⊥) → Begins (xs ++ (x ∷ []))
begins_snoc [] x b n = absurd b
begins_snoc (y ∷ xs) x b n = (b.0, every_append (λ z. IsStart z → ⊥) xs (x ∷ []) b.1 (n, tt))

-- ---- what the mark and the turn tell

start_rule : (k : Option Rule) (n : ℕ) → mark_by k n ≡ starts → (d : Side) × (k ≡ Some (Start d))
start_rule (Some (Start d)) n m = (d, refl)
start_rule (Some (On s)) n m = absurd (by (eqb n 0) m)
  where
    by : (b : Bool) → cond b ends goes_on ≡ starts → ⊥
    by true h = starts≢ends (sym h)
    by false h = starts≢goes (sym h)
start_rule None n m = absurd (starts≢goes (sym m))

module _ {p : ℕ} {r : Record} {e : Event} where
  -- the answer's place, call and state are those of the turn
  pub answer_of : {a : Answer} {s : Record} → Turned p r e a s → (a.place ≡ place_at p) × (a.call ≡ e.call) × (a.state ≡ state_number s.state)
  answer_of (opened d o) = (refl, refl, refl)
  answer_of (closed k first second h t) = (refl, refl, refl)
  answer_of (carried k g n m h t) = (refl, refl, refl)

  -- where the record after the turn holds the call, the place is not free
  occupied : {a : Answer} {s : Record} → Turned p r e a s → holds e.call s ≡ true → a.state ≡ 0 → ⊥
  occupied {a} {s} t h q =
      let zero : state_number s.state ≡ 0 = sym (answer_of t).2 ∙ q in
      not_both (eq-eqb (state_number s.state) 0 zero) (holds_occupied e.call s h)

-- ---- a stay

runs : {p : ℕ} {c : List ℕ} {xs : List Act} {r : Record} → Part machine laws p c xs r → Runs (place_at p) c xs
runs (begun {x} turn k q) =
    let a = answer_of turn in
    record {
      begins = (start_rule (rule_of x.event.kind) x.answer.state k, tt);
      one = ((a.0, a.1 ∙ q), tt);
      held = (occupied turn (at_start turn k).1, tt);
    }
runs {p} {c} (onward {xs} {x} h turn k q) =
    let a = answer_of turn in
    let before = runs h in
    record {
      begins = begins_snoc xs x before.begins (λ s. starts≢goes (sym (start_mark s.1 _) ∙ k));
      one = every_append (OfStay (place_at p) c) xs (x ∷ []) before.one ((a.0, a.1 ∙ q), tt);
      held = every_append (λ y. Frees y → ⊥) xs (x ∷ []) before.held (occupied turn (at_going turn k).1, tt);
    }

ended : {xs : List Act} → Whole machine laws xs → Ended xs
ended (whole {p} {c} {xs} {x} h turn k q) =
    let a = answer_of turn in
    record {
      place = place_at p;
      call = c;
      before = xs;
      last = x;
      all = refl;
      runs = runs h;
      same = (a.0, a.1 ∙ q);
      no_start = λ s. starts≢ends (sym (start_mark s.1 _) ∙ k);
      frees = a.2;
    }

all_running : (cs : List Record) (ss : List (Stay Act)) → Opens machine laws cs ss → Every (λ s. (call : List ℕ) × Runs (place_at s.at) call s.events) ss
all_running cs [] os = tt
all_running cs (s ∷ ss) os = ((os.0.whose, runs os.0.part), all_running cs ss os.1)

pub each_stay : EachStay
each_stay es =
    let v = inv_all machine laws es in
    (every_ended machine laws Ended (λ xs h. ended h) (stays_of es).ended v.wholes, all_running v.cores (stays_of es).running v.opens)
