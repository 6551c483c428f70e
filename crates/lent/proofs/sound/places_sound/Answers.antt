-- A place that does not fit, or a call or a rank that stands twice, decides against the image; when all are entered, it is one of a sound table.
use Rattle.std.proofs.Common.{◌≡◌, ℕ, Bool, true, false, sym, refl, ◌∙◌, subst, arith}
use Rattle.laws.specs.Lists.{below}
use Rattle.laws.proofs.Bools.{not_both}
use Rattle.laws.proofs.Lists.{below_none, below_more, below_get}
use Rattle.table.specs.Places.{place_count}
use Rattle.table.specs.Ranks.{rank_sound}
use Rattle.image.specs.Image.{table_from, places_sound}
use Rattle.image.specs.Quick.{place_fits}
use Rattle.image.proofs.PlaceLaws.{places_fit}
use Rattle.image.proofs.Apart as apart
use Rattle.lent.proofs.sound.places_sound.Goals as goal

-- an image that would not be sound if it passed the test does not pass
fails : (b : Bool) → (b ≡ true → ⊥) → b ≡ false
fails false h = refl
fails true h = absurd (h refl)

pub loop-i-init : goal.loop-i-init
loop-i-init c =
    let s = c.args.image.now in
    (below_none (place_fits s), c.none-buckets.ensures s, c.none-marks.ensures)

pub returns-then-not-place_fits : goal.returns-then-not-place_fits
returns-then-not-place_fits c =
    let s = c.args.image.now in
    let no = sym c.place_fits.ensures ∙ c.if-not-place_fits.true in
    sym (fails (places_sound s) (λ test. not_both (places_fit s test c.loop-i.i (omega arith)) no))

pub loop-i-preserved : goal.loop-i-preserved
loop-i-preserved c =
    let s = c.args.image.now in (
      below_more (place_fits s) c.loop-i.i c.loop-i.invariant.0 (sym c.place_fits.ensures ∙ c.if-not-place_fits.false),
      c.enter.ensures.entered c.if-not-enter.false,
      c.enter-in-loop-i.ensures.entered c.if-not-enter-2.false,
    )

pub returns : goal.returns
returns c =
    let s = c.args.image.now in
    let past : c.loop-i.i ≡ place_count = omega arith in
    let ranked = subst (λ (n : ℕ). below (rank_sound (table_from s)) n ≡ true) past c.loop-i.invariant.2.1.0 in
    sym
    (apart.places_sound_lem s (λ i h. below_get (place_fits s) c.loop-i.i c.loop-i.invariant.0 i (omega arith)) (λ m l. c.loop-i.invariant.1.apart m (omega arith)) ranked)
