-- Lines of words, read again.
use Rattle.std.proofs.Common.{◌≡◌, ◌≢◌, ◌∙◌, ap, sym, refl, ℕ, ◌<◌, false, cond, List, [], ◌∷◌, ◌++◌, length, map, arith}
use Rattle.std.specs.List.{All, join_with_byte}
use Rattle.std.proofs.lemmas.List.{append-nil, append_assoc}
use Rattle.std.proofs.lemmas.List.Elements.{All-nil, All-cons, All-head, All-tail, All-append, All-weaker}
use Rattle.lrat_tool.specs.Words.{is_blank, is_comment, lines_of, words_in, words_of}
use Rattle.lrat_tool.specs.Written.{text_of}
use Rattle.lrat_tool.proofs.Texts.{lines_line, words_word}

-- some bytes, and no blank
pub record IsWord (w : List ℕ) : Type 0 where
  pub some : 0 < length w
  pub solid : All (λ b. is_blank b ≡ false) w

-- words that are no comment
pub record IsLine (line : List (List ℕ)) : Type 0 where
  pub words : All IsWord line
  pub counts : is_comment (join_with_byte 32 line) ≡ false

no_end : (b : ℕ) → is_blank b ≡ false → b ≢ 10
no_end b h e = absurd (cc (ap is_blank e))

solid_line : (words : List (List ℕ)) → All IsWord words → All (λ b. b ≢ 10) (join_with_byte 32 words)
solid_line [] are = All-nil (λ (b : ℕ). b ≢ 10)
solid_line (w ∷ []) are = All-weaker (λ b. is_blank b ≡ false) (λ b. b ≢ 10) no_end w ((All-head IsWord w [] are).solid)
solid_line (w ∷ v ∷ words) are =
    All-append (λ (b : ℕ). b ≢ 10) w (32 ∷ join_with_byte 32 (v ∷ words))
    (All-weaker (λ b. is_blank b ≡ false) (λ b. b ≢ 10) no_end w ((All-head IsWord w (v ∷ words) are).solid))
    (All-cons (λ (b : ℕ). b ≢ 10) 32 (join_with_byte 32 (v ∷ words)) (λ e. absurd (omega (arith, e))) (solid_line (v ∷ words) (All-tail IsWord w (v ∷ words) are)))

pub words_read : (words : List (List ℕ)) → All IsWord words → words_of (join_with_byte 32 words) ≡ words
words_read [] are = refl
words_read (w ∷ []) are =
    let one = All-head IsWord w [] are in
    ap words_of (sym (append-nil w)) ∙ words_word w [] one.some one.solid refl
words_read (w ∷ v ∷ words) are =
    let one = All-head IsWord w (v ∷ words) are in
    words_word w (32 ∷ join_with_byte 32 (v ∷ words)) one.some one.solid refl ∙ ap (λ ws. w ∷ ws) (words_read (v ∷ words) (All-tail IsWord w (v ∷ words) are))

pub line_read : (words : List (List ℕ)) → IsLine words → words_in (join_with_byte 32 words) ≡ words
line_read words is = ap (λ b. cond b [] (words_of (join_with_byte 32 words))) is.counts ∙ words_read words is.words

pub lines_read : (lines : List (List (List ℕ))) → All IsLine lines → lines_of (text_of lines) ≡ map (join_with_byte 32) lines ++ [] ∷ []
lines_read [] are = refl
lines_read (words ∷ lines) are =
    ap lines_of (append_assoc (join_with_byte 32 words) (10 ∷ []) (text_of lines))
    ∙ lines_line (join_with_byte 32 words) (text_of lines) (solid_line words (All-head IsLine words lines are).words)
    ∙ ap (λ ls. join_with_byte 32 words ∷ ls) (lines_read lines (All-tail IsLine words lines are))
