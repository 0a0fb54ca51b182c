use Rattle.std.proofs.Common.{List, ℕ, ◌+◌, drop, sym, subst}
use Rattle.std.specs.Option.{option_to_list}
use Rattle.syntax_trees.specs.Texts.{IsInside}
use Rattle.syntax_trees.proofs.TextsRead.{ReadsText, slice_rest, part_within, text_goes_on, text_closes, text_stops, text_ends}
use Rattle.syntax_trees.proofs.texts.read_text.Goals as goal

pub returns-in-Closing : goal.returns-in-Closing
returns-in-Closing c =
    let bytes = c.args.bytes.now in
    let l = c.loop-at in
    let r = slice_rest bytes l.at in
    let Here : List ℕ → Type 0 = λ t. IsInside c.args.long bytes t (drop (l.at + c.in-Closing.len) bytes) in (
      part_within bytes _ l.at c.in-Closing.len r c.loop-at-test.true c.in-Closing.ensures.within,
      subst Here (sym c.from_vec.ensures)
          (text_closes c.args.long bytes l.text.items _ l.at c.in-Closing.len r c.in-Closing.ensures.part l.invariant.1),
    )

pub loop-at-preserved : goal.loop-at-preserved
loop-at-preserved c =
    let bytes = c.args.bytes.now in
    let l = c.loop-at in
    let s = c.in-Standing in
    let r = slice_rest bytes l.at in
    let Here : List ℕ → Type 0 = λ t. ReadsText c.args.long bytes (l.at + s.len) t in (
      part_within bytes _ l.at s.len r c.loop-at-test.true s.ensures.within.1,
      subst Here (sym c.in_ok-push_given-in-Standing.ensures)
          (text_goes_on c.args.long bytes l.text.items (option_to_list s.byte) _ l.at s.len r s.ensures.part l.invariant.1),
    )

pub returns-in-Unknown : goal.returns-in-Unknown
returns-in-Unknown c =
    let bytes = c.args.bytes.now in
    let l = c.loop-at in
    text_stops c.args.long bytes l.text.items _ l.at (slice_rest bytes l.at) c.in-Unknown.ensures.part l.invariant.1

pub returns : goal.returns
returns c = text_ends c.args.long c.args.bytes.now c.loop-at.text.items c.loop-at.at c.loop-at-test.false c.loop-at.invariant.1
