use Rattle.std.proofs.Common.{◌≡◌, Bool, true, take, map, pos, ap, ◌∙◌, sym}
use Rattle.std.proofs.lemmas.List.{take-map}
use Rattle.gl_logic.specs.TwosComplement.{integer_of}
use Rattle.sym_bits.proofs.Floors.{lowest_part}
use Rattle.sym_bits.proofs.lists.narrow.Goals as goal

pub returns-clause-same : goal.returns-clause-same
returns-clause-same c truth h =
    let xs = c.args.a.now in
    ap (λ es. integer_of (map truth es)) c.lowest.ensures ∙ (ap integer_of (sym (take-map truth 128 xs)) ∙ lowest_part 127 (map truth xs) h)
