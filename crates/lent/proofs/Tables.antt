-- The image of a sound table, line after line: it is read as that table, and what a line leaves is the image of a sound table again. So an
-- image that was read once need not be looked through before the next line.
use Rattle.std.proofs.Common.{◌≡◌, ℕ, zero, suc, ◌+◌, ◌*◌, Bool, true, false, cond, Result, Ok, Err, IfOk, eqb, List, ◌++◌, length, replicate, sym, refl, ap, ◌∙◌, arith}
use lib.ListN.{length-replicate, get_or-replicate, replicate-append-replicate}
use borrow.Author.Tests.{eqb-false}
use Rattle.table.specs.declared.Table.{Table}
use Rattle.table.specs.Places.{free_record, empty_table, blank, place_count}
use Rattle.table.specs.Sound.{is_sound}
use Rattle.table.proofs.Facts.{empty_sound}
use Rattle.events.specs.declared.Event.{Event}
use Rattle.step.specs.Step.{step_of}
use Rattle.step.proofs.Promises.{keeps_sound, refusal_keeps}
use Rattle.lines.specs.declared.BadLine.{BadLine}
use Rattle.lines.specs.EventLine.{read_line}
use Rattle.lines.specs.Round.{EventInRange}
use Rattle.lent.specs.LineStep.{step_read, line_step}
use Rattle.lines.proofs.Ranged.{read_ranged}
use Rattle.image.specs.Image.{Fit, octets_of, octets_of_all, image_of, table_from, is_sound_image, read_image, place_octets, image_octets}
use Rattle.image.proofs.Round.{image_tested, image_reads_back, image_written_back}
use Rattle.lent.specs.Lent.{step_on, step_at, left_on}
use Rattle.lent.specs.Kept.{LineAtTable, LeavesItsImage, ReadAgain, StaysRead}
use Rattle.lent.proofs.Kept.{fit_after, image_sound, image_fit}

-- a table as the types say, and sound
pub record Good (t : Table) : Type 0 where
  pub fit : Fit t
  pub sound : is_sound t ≡ true

-- ---- after an event

module _ (t : Table) (g : Good t) (e : Event) (given : length e.call ≡ 16) where
  event_good : Good (step_of t e).table
  event_good = record { fit = fit_after t g.fit g.sound e given; sound = keeps_sound t e (g.fit.size, g.fit.wide) g.sound }

-- ---- after a line

module _ (t : Table) (g : Good t) (line : List ℕ) where
  pub line_good : Good (line_step t line).table
  line_good = by (read_line line) (read_ranged line).event
    where
      by : (r : Result Event BadLine) → IfOk r EventInRange → Good (step_read t r).table
      by (Ok e) l = event_good t g e l.call.long
      by (Err b) l = g

  -- a refused line keeps the table
  refused_line : (eqb (line_step t line).answer.number 0 ≡ false) → (line_step t line).table ≡ t
  refused_line = by (read_line line)
    where
      by : (r : Result Event BadLine) → eqb (step_read t r).answer.number 0 ≡ false → (step_read t r).table ≡ t
      by (Ok e) q = refusal_keeps t e (g.fit.size, g.fit.wide) (eqb-false _ 0 q)
      by (Err b) q = refl

  -- THE LINE AT THE IMAGE OF THE TABLE
  pub on_image : step_on (image_of t) line ≡ line_step t line
  on_image = ap (λ r. step_at r line) (image_reads_back t g.fit g.sound)

  pub left_image : left_on (image_of t) line ≡ image_of (line_step t line).table
  left_image = rw on_image (by (eqb (line_step t line).answer.number 0) refl)
    where
      by : (b : Bool) → eqb (line_step t line).answer.number 0 ≡ b → cond b (image_of (line_step t line).table) (image_of t) ≡ image_of (line_step t line).table
      by true q = refl
      by false q = ap image_of (sym (refused_line q))

-- the image of a good table is read
pub image_good : (t : Table) → Good t → is_sound_image (image_of t) ≡ true
image_good t g = image_tested t g.fit ∙ g.sound

-- ---- at an image that is read

good_from : (image : List ℕ) → is_sound_image image ≡ true → Good (table_from image)
good_from image good = record { fit = image_fit image good; sound = image_sound image good }

-- THE LINE AT THE TABLE THAT WAS READ
pub on_read : LineAtTable
on_read image line good = rw good

-- WHAT IT LEAVES
pub left_read : LeavesItsImage
left_read image line octets good =
    ap (λ o. left_on o line) (sym (image_written_back image octets good)) ∙ left_image (table_from image) (good_from image good) line

-- AN IMAGE STAYS READ
pub read_after : ReadAgain
read_after image line octets good =
    let after = line_good (table_from image) (good_from image good) line in
    ap read_image (left_read image line octets good) ∙ image_reads_back (line_step (table_from image) line).table after.fit after.sound

pub stays_read : StaysRead
stays_read image line octets good =
    ap is_sound_image (left_read image line octets good)
    ∙ image_good (line_step (table_from image) line).table (line_good (table_from image) (good_from image good) line)

-- ---- the empty table

pub empty_good : Good empty_table
empty_good = record {
  fit = record { size = length-replicate place_count free_record; wide = length-replicate {A = ℕ} place_count 0; calls = λ i h. ap (λ r. length r.call) (get_or-replicate place_count i free_record blank h) };
  sound = empty_sound;
}

-- its image is all zeros
free_octets : (n : ℕ) → octets_of_all (replicate n free_record) (replicate n 0) ≡ replicate (n * place_octets) 0
unfolding octets_of_all octets_of
free_octets zero = refl
free_octets (suc n) =
    let more : place_octets + n * place_octets ≡ suc n * place_octets = omega arith in
    ap (λ (l : List ℕ). replicate place_octets 0 ++ l) (free_octets n) ∙ replicate-append-replicate place_octets (n * place_octets) 0 ∙ ap (λ (k : ℕ). replicate k 0) more

pub empty_image : image_of empty_table ≡ replicate image_octets 0
empty_image = free_octets place_count
