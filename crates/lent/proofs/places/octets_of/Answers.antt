-- What stands so far is the run of the octets of the first i places; all of them are as long as the image. That each call has its octets, which its
-- type says, is seen on the way.
use Rattle.std.proofs.Common.{◌≡◌, ℕ, ◌+◌, ◌*◌, List, [], ◌∷◌, ◌++◌, length, get_or, replicate, take, sym, refl, ap, ◌∙◌, ap₂, arith, rules, length-append, take_all}
use Rattle.std.proofs.lemmas.List.Edits.{sets}
use lib.ListN.{length-replicate}
use Rattle.laws.proofs.Runs.{length_mapped, length_snoc, sets_more, sets_on, sets_all}
use Rattle.table.specs.Places.{place_count, blank}
use Rattle.image.specs.Image.{place_octets, image_octets, rank_index, octets_of, octets_of_all}
use Rattle.image.proofs.Fills.{all_more, call_long, calls_more}
use Rattle.lent.proofs.places.octets_of.Goals as goal

pub loop-i-init : goal.loop-i-init
unfolding octets_of_all
loop-i-init c = (refl, refl, λ k h. absurd (omega arith))

pub loop-i-preserved : goal.loop-i-preserved
loop-i-preserved c =
    let q = c.put_record in
    let l = c.loop-i in
    let o : List ℕ = replicate image_octets 0 in
    let s = c.args.t.places in
    let ranks = c.args.t.ranks in
    let size : length s ≡ place_count = search length_mapped in
    let wide : length ranks ≡ place_count = search rules in
    let i = l.i in
    let rank = get_or ranks i 0 in
    let f = octets_of_all (take i s) (take i ranks) in
    let octets = octets_of (get_or s i blank) in
    let g = octets_of (get_or s i blank) ++ (rank ∷ []) in
    let e : octets_of_all (take (i + 1) s) (take (i + 1) ranks) ≡ f ++ g = all_more s ranks (omega (arith, size, wide)) i (omega (arith, size)) in
    let there : rank_index i ≡ i * place_octets + length octets = omega (arith, q.ensures.1) in (
      omega (arith, ap length e, length-append f g, length_snoc octets rank, q.ensures.1, l.invariant.0),
      sets_more octets l.octets q.new.image (i * place_octets) (rank_index i) rank there q.ensures.0
          ∙ sets_on f g o l.octets 0 (i * place_octets) (omega (arith, l.invariant.0)) l.invariant.1
          ∙ ap (sets o 0) (sym e),
      calls_more s i l.invariant.2 (call_long (get_or s i blank) q.ensures.1),
    )

pub returns : goal.returns
returns c =
    let l = c.loop-i in
    let o : List ℕ = replicate image_octets 0 in
    let s = c.args.t.places in
    let ranks = c.args.t.ranks in
    let size : length s ≡ place_count = search length_mapped in
    let wide : length ranks ≡ place_count = search rules in
    let i = l.i in
    let f = octets_of_all (take i s) (take i ranks) in
    let long : length o ≡ image_octets = length-replicate {A = ℕ} image_octets 0 in
    let all = ap₂ octets_of_all (take_all i s (omega (arith, size))) (take_all i ranks (omega (arith, wide))) in (
      l.invariant.1 ∙ sets_all o f (omega (arith, l.invariant.0, long)) ∙ all,
      record { size = size; wide = wide; calls = λ j h. l.invariant.2 j (omega arith) },
    )
