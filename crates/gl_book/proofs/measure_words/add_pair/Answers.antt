use Rattle.std.specs.Prelude.{codes}
use Rattle.gl_book.specs.Lines.{natural_words}
use Rattle.gl_book.proofs.ManyLines.{five_parts}
use Rattle.gl_book.proofs.measure_words.add_pair.Goals as goal

pub returns : goal.returns
returns c =
    let names = c.args.texts.now in
    five_parts c.args.words.now.items (codes "(MAKE-ORD 1 (+ 1 ") (natural_words names c.args.first) (codes ") ") (natural_words names c.args.second) (codes ")") _ _ _ _ _
    c.in_ok-extend_from_slice.ensures.items c.in_ok-add_natural.ensures c.in_ok-extend_from_slice-2.ensures.items c.in_ok-add_natural-2.ensures c.in_ok-extend_from_slice-3.ensures.items
