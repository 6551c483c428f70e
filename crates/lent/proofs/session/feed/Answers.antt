-- A line that has ended takes what is left past its feed (`feeding_on`), and where no feed is left it gives the answer (`feeding_end`). There is
-- room for an answer, since each line has its feed.
use Rattle.std.proofs.Common.{◌≡◌, ℕ, ◌<◌, Ok, List, length, drop, sym, ap, ◌∙◌, arith, length-drop, le-ltb}
use Rattle.std.proofs.lemmas.List.Edits.{sets}
use Rattle.lines.specs.AnswerLine.{answer_line}
use Rattle.image.specs.Image.{is_sound_image}
use Rattle.lent.specs.declared.session.Session.{Session}
use Rattle.lent.specs.Session.{end_line, restart, kept_by}
use Rattle.lent.proofs.KeepLaws.{until_within}
use Rattle.lent.proofs.Feeds.{feeding_same, feeding_end, feeding_on}
use Rattle.lent.proofs.session.feed.Goals as goal

pub returns-then-end-piece : goal.returns-then-end-piece
returns-then-end-piece c =
    let k = c.keep-end in
    let enough = le-ltb _ _ c.if-out-piece.false in
    let end = feeding_end c.args.piece.now c.args.out.now c.args.s c.loop-s.invariant.0 k.result k.ensures.0 (omega arith) in (
      rw enough (λ j. Ok (record { session = (k.ensures.1 ∙ end.0) j; written = end.1 j })),
      rw enough end.2,
    )

pub overflow_add-i : goal.overflow_add-i
overflow_add-i c =
    let piece : List ℕ = c.args.piece.now in
    omega (arith, c.keep-end.ensures.0, until_within (drop c.loop-s.i piece), length-drop c.loop-s.i piece, c.loop-s.invariant.0.inside)

pub loop-s-preserved : goal.loop-s-preserved
loop-s-preserved c =
    let l = c.loop-s in
    let k = c.keep-end in
    let e = c.end_line-written in
    let piece : List ℕ = c.args.piece.now in
    let now : Session = kept_by l.s (drop l.i piece) in
    let keeps : k.new.self ≡ now = k.ensures.1 in
    let inside : k.result < length piece = omega (arith, k.ensures.0, until_within (drop l.i piece), length-drop l.i piece, l.invariant.0.inside) in
    let count : e.result ≡ length (answer_line (end_line now).answer) = e.ensures.0 ∙ ap (λ (s : Session). length (answer_line (end_line s).answer)) keeps in
    let out = e.ensures.1 ∙ ap (λ (s : Session). sets l.out l.written (answer_line (end_line s).answer)) keeps in (
      feeding_same (e.ensures.3 ∙ ap restart keeps) out
          (feeding_on piece c.args.out.now c.args.s l.invariant.0 k.result k.ensures.0 inside e.result count e.ensures.2),
      e.ensures.4 ∙ ap (λ (s : Session). is_sound_image s.image) (sym e.ensures.3),
    )
