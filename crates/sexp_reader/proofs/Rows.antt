-- Worked rows of the pieces, which the checker computes.
use Rattle.std.proofs.Common.{◌≡◌, refl, List, [], ◌∷◌, ◌++◌, ℕ, replicate, pos, negsuc}
use Rattle.std.specs.Prelude.{codes, ◌-◌, ◌^◌}
use Rattle.sexp_reader.specs.declared.ends.ReadCode.TheVariants.{EndInside, BadByte, WideNumber, NumberForm, BadHash, LongName, BadDot}
use Rattle.sexp_reader.specs.declared.lexeme.Piece.{Piece}
use Rattle.sexp_reader.specs.declared.lexeme.Piece.TheVariants.{Torn, Gap, Part, Faulty}
use Rattle.sexp_reader.specs.declared.lexeme.Mark.TheVariants.{Comma}
use Rattle.sexp_reader.specs.declared.lexeme.Lexeme.TheVariants as lexeme
use Rattle.sexp_reader.specs.declared.lexeme.Atom.TheVariants as atoms
use Rattle.sexp_reader.specs.Pieces.{first_piece}

abbrev symbol : ℕ → List ℕ → Piece
symbol count name = Part count (lexeme.Atom (atoms.Symbol name))

abbrev character : ℕ → ℕ → Piece
character count code = Part count (lexeme.Atom (atoms.Character code))

-- ---- tokens
hexed : first_piece (codes "-0x1 a") ≡ symbol 4 (codes "-0X1")
hexed = refl

minus : first_piece (codes "-12)") ≡ Part 3 (lexeme.Atom (atoms.Integer (negsuc 11)))
minus = refl

plus : first_piece (codes "+007") ≡ Part 4 (lexeme.Atom (atoms.Integer (pos 7)))
plus = refl

exponent_alone : first_piece (codes "1e") ≡ symbol 2 (codes "1E")
exponent_alone = refl

point_exponent : first_piece (codes "1.e") ≡ symbol 3 (codes "1.E")
point_exponent = refl

signed_point : first_piece (codes "+.e5") ≡ symbol 4 (codes "+.E5")
signed_point = refl

slashes : first_piece (codes "1//2") ≡ symbol 4 (codes "1//2")
slashes = refl

minus_alone : first_piece (codes "-") ≡ symbol 1 (codes "-")
minus_alone = refl

ratio : first_piece (codes "1/2") ≡ Faulty 0 NumberForm
ratio = refl

point : first_piece (codes "1.") ≡ Faulty 0 NumberForm
point = refl

scaled : first_piece (codes "2F7") ≡ Faulty 0 NumberForm
scaled = refl

small : first_piece (codes "-.5e3") ≡ Faulty 0 NumberForm
small = refl

small_pointed : first_piece (codes "1.e+5") ≡ Faulty 0 NumberForm
small_pointed = refl

one_dot : first_piece (codes ". a") ≡ Part 1 lexeme.Dot
one_dot = refl

two_dots : first_piece (codes "..") ≡ Faulty 0 BadDot
two_dots = refl

keyword : first_piece (codes ":key)") ≡ symbol 4 (codes ":KEY")
keyword = refl

dropped : first_piece (codes "aCl2::t)") ≡ symbol 7 (codes "T")
dropped = refl

dropped_number : first_piece (codes "gl::1") ≡ symbol 5 (codes "1")
dropped_number = refl

dropped_nothing : first_piece (codes "gl::)") ≡ Faulty 3 BadByte
dropped_nothing = refl

foreign : first_piece (codes "foo::b") ≡ Faulty 3 BadByte
foreign = refl

twice : first_piece (codes "acl2::a:b") ≡ Faulty 7 BadByte
twice = refl

two_colons : first_piece (codes "::a") ≡ Faulty 0 BadByte
two_colons = refl

later_colon : first_piece (codes ":a:b") ≡ Faulty 0 BadByte
later_colon = refl

colon_alone : first_piece (codes ": a") ≡ Faulty 0 BadByte
colon_alone = refl

longest : first_piece (codes "gl::" ++ replicate 255 97) ≡ symbol 259 (replicate 255 65)
longest = refl

too_long : first_piece (replicate 256 97) ≡ Faulty 0 LongName
too_long = refl

long_keyword : first_piece (58 ∷ replicate 255 97) ≡ Faulty 0 LongName
long_keyword = refl

greatest : first_piece (codes "170141183460469231731687303715884105727") ≡ Part 39 (lexeme.Atom (atoms.Integer (pos (2 ^ 127 - 1))))
greatest = refl

too_great : first_piece (codes "170141183460469231731687303715884105728") ≡ Faulty 0 WideNumber
too_great = refl

least : first_piece (codes "-170141183460469231731687303715884105728") ≡ Part 40 (lexeme.Atom (atoms.Integer (negsuc (2 ^ 127 - 1))))
least = refl

too_small : first_piece (codes "-170141183460469231731687303715884105729") ≡ Faulty 0 WideNumber
too_small = refl

-- ---- number signs
binary : first_piece (codes "#b101)") ≡ Part 5 (lexeme.Atom (atoms.Integer (pos 5)))
binary = refl

hexadecimal : first_piece (codes "#X-fF") ≡ Part 5 (lexeme.Atom (atoms.Integer (negsuc 254)))
hexadecimal = refl

no_octal : first_piece (codes "#o8 ") ≡ Faulty 0 BadHash
no_octal = refl

no_digits : first_piece (codes "#x") ≡ Faulty 0 BadHash
no_digits = refl

wide : first_piece (codes "#x80000000000000000000000000000000") ≡ Faulty 0 WideNumber
wide = refl

bare : first_piece (codes "#") ≡ Torn
bare = refl

bare_inside : first_piece (codes "# ") ≡ Faulty 0 BadHash
bare_inside = refl

vector : first_piece (codes "#(1)") ≡ Faulty 0 BadHash
vector = refl

one_character : first_piece (codes "#\\(a") ≡ character 3 40
one_character = refl

hash_character : first_piece (codes "#\\# ") ≡ character 3 35
hash_character = refl

space : first_piece (codes "#\\sPace)") ≡ character 7 32
space = refl

rubout : first_piece (codes "#\\Rubout") ≡ character 8 127
rubout = refl

no_character : first_piece (codes "#\\1x") ≡ Faulty 0 BadHash
no_character = refl

control_character : first_piece (codes "#\\\n") ≡ Faulty 0 BadHash
control_character = refl

cut_character : first_piece (codes "#\\") ≡ Faulty 2 EndInside
cut_character = refl

-- ---- comments and strings
nested : first_piece (codes "#| a #| |# || |#x") ≡ Gap 16
nested = refl

overlapping : first_piece (codes "#|#|#") ≡ Torn
overlapping = refl

line : first_piece (codes "; a\nb") ≡ Gap 3
line = refl

text : first_piece (codes "\"a\\\"\nb\"c") ≡ Part 7 (lexeme.Atom (atoms.String (codes "a\"\nb")))
text = refl

open_text : first_piece (codes "\"abc") ≡ Faulty 4 EndInside
open_text = refl

escaped_end : first_piece (codes "\"ab\\") ≡ Faulty 4 EndInside
escaped_end = refl

bad_text : first_piece (34 ∷ 97 ∷ 92 ∷ 127 ∷ []) ≡ Faulty 3 BadByte
bad_text = refl

-- ---- the rest
spliced : first_piece (codes ",@x") ≡ Part 1 lexeme.Splice
spliced = refl

comma : first_piece (codes ", @x") ≡ Part 1 (lexeme.Prefix Comma)
comma = refl

bar : first_piece (codes "|#") ≡ Faulty 0 BadByte
bar = refl

high : first_piece (200 ∷ []) ≡ Faulty 0 BadByte
high = refl
