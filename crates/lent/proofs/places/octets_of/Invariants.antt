-- The places written so far stand at the front; each has a call of its length.
use Rattle.std.proofs.Common.{◌≡◌, ℕ, ◌*◌, ◌<◌, length, take}
use Rattle.std.proofs.lemmas.List.Edits.{sets}
use Rattle.table.specs.Places.{record_at, call_octets}
use Rattle.image.specs.Image.{place_octets, octets_of_all}
use Rattle.lent.proofs.places.octets_of.Given as goal

abbrev pub invariant-loop-i : goal.invariant-loop-i
invariant-loop-i l =
    (length (octets_of_all (take l.i l.t.places) (take l.i l.t.ranks)) ≡ l.i * place_octets)
    × (l.octets ≡ sets l.initial.octets 0 (octets_of_all (take l.i l.t.places) (take l.i l.t.ranks)))
    × ((k : ℕ) → k < l.i → length (record_at l.t k).call ≡ call_octets)
