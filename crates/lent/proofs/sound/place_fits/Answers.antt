-- Each way is one of the laws of a place's octets.
use Rattle.std.proofs.Common.{◌≡◌, ℕ, eqb, sym, ap, ◌∙◌, arith, rules, eqb-true}
use denote.Enum.Bare.{same_true, same_false}
use Rattle.laws.proofs.Bools.{not_both}
use Rattle.table.specs.contracts.State.{the_type}
use Rattle.table.specs.declared.State.TheVariants.{RemoteRequested}
use Rattle.table.specs.Places.{state_number, state_of, is_free, missing_on}
use Rattle.table.proofs.States.{state_below, state_back}
use Rattle.image.specs.Image.{place_start, state_octet}
use Rattle.image.proofs.PlaceLaws.{free_octet, state_in, fits_free, fits_missing, fits_remote, fits_other}
use Rattle.lent.proofs.sound.place_fits.Goals as goal

pub returns-then-is_free : goal.returns-then-is_free
returns-then-is_free c =
    let s = c.args.image.now in
    let i = c.args.i in
    let free = sym (free_octet s (place_start i)) ∙ ap is_free (state_in s i ∙ sym c.of-state.ensures) ∙ sym c.is_free.ensures ∙ c.if-is_free.true in
    c.all_zeros.ensures ∙ sym (fits_free s i (eqb-true (state_octet s i) 0 free))

pub returns-then-eq : goal.returns-then-eq
returns-then-eq c =
    let same : c.of-state.result ≡ c.missing.result = same_true the_type (search rules) _ _ (sym c.eq.ensures ∙ c.if-eq.true) in
    let missing = same ∙ c.missing.ensures ∙ ap missing_on c.at.ensures in
    sym (fits_missing c.args.image.now c.args.i (sym c.if-from-octet.false ∙ c.from.ensures ∙ ap state_number missing))

pub returns-then-eq-2 : goal.returns-then-eq-2
returns-then-eq-2 c =
    let same : c.of-state.result ≡ RemoteRequested = same_true the_type (search rules) _ _ (sym c.eq-2.ensures ∙ c.if-eq-2.true) in
    sym (fits_remote c.args.image.now c.args.i (sym c.if-from-octet.false ∙ c.from.ensures ∙ ap state_number same))

pub returns : goal.returns
returns c =
    let missing = c.missing.ensures ∙ ap missing_on c.at.ensures in
    ap (λ (x : ℕ). eqb x 0) c.read_pair.ensures
    ∙ sym
    (fits_other c.args.image.now c.args.i
    (omega (arith, c.from.ensures, c.if-from-octet.false, state_below c.of-state.result))
    (λ e. same_false the_type _ _ (sym c.eq.ensures ∙ c.if-eq.false) (c.of-state.ensures ∙ ap state_of e ∙ state_back _ ∙ sym missing))
    (λ e. not_both (c.is_free.ensures ∙ ap is_free (c.of-state.ensures ∙ ap state_of e)) c.if-is_free.false)
    (λ e. same_false the_type _ _ (sym c.eq-2.ensures ∙ c.if-eq-2.false) (c.of-state.ensures ∙ ap state_of e)))
