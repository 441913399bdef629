use Rattle.std.proofs.Common.{◌≡◌, ℕ, Bool}
use Rattle.sym_prims.proofs.Chars.{gives_code}
use Rattle.sym_prims.proofs.characters.code_char.Goals as goal

pub returns : goal.returns
returns g c =
    let bits = c.integer_bits-bits in
    record {
      gives = gives_code g.B.Meaning c.args.objs.now bits.new.objs c.beyond_byte.new.objs c.character_by.new.objs c.first_character.new.objs c.choose.new.objs c.args.x bits.result c.in_ok-beyond.beyond c.in_ok-near.near c.in_ok-far.far c.choose.result
          bits.ensures.same c.requires.whole bits.ensures.live bits.ensures.value c.in_ok-beyond.ensures.tells c.in_ok-near.ensures.gives c.in_ok-far.ensures.gives c.choose.ensures.gives;
    }
