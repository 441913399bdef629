-- A list with one entry more, and lists in which no entry stands twice.
use Rattle.std.proofs.Common.{◌≡◌, ◌≢◌, ◌⊎◌, ℕ, ◌<◌, List, [], ◌∷◌, ◌++◌, length, get_or, sym, ◌∙◌, inl, inr, arith}
use Rattle.std.proofs.lemmas.List.{get_or_append_left, get_or_push, length_push}
use Rattle.std.proofs.lemmas.Bool.{cases_lt}

module _ {N : Type 0} (d : N) (nodes : List N) (n : N) where
  pub entry-before : (i : ℕ) → i < length nodes → get_or (nodes ++ n ∷ []) i d ≡ get_or nodes i d
  entry-before i h = get_or_append_left nodes (n ∷ []) d i h

  pub entry-last : (i : ℕ) → i ≡ length nodes → get_or (nodes ++ n ∷ []) i d ≡ n
  entry-last i h = get_or_push nodes n d i (sym h)

-- where a number of the longer list lies
pub number_cases : {N : Type 0} (nodes : List N) (n : N) (i : ℕ) → i < length (nodes ++ n ∷ []) → (i < length nodes) ⊎ (i ≡ length nodes)
number_cases nodes n i h = elim (cases_lt i (length nodes)) [ inl below ↦ inl below | inr last ↦ inr (omega (arith, h, last, length_push nodes n)) ]

-- an entry that was not there stands once
pub distinct-more : {N : Type 0} (d : N) (nodes : List N) (n : N) → ((i j : ℕ) → i < length nodes → j < length nodes → get_or nodes i d ≡ get_or nodes j d → i ≡ j) → ((i : ℕ) → i < length nodes → get_or nodes i d ≢ n)
    → (i j : ℕ) → i < length (nodes ++ n ∷ []) → j < length (nodes ++ n ∷ []) → get_or (nodes ++ n ∷ []) i d ≡ get_or (nodes ++ n ∷ []) j d → i ≡ j
distinct-more d nodes n distinct absent i j i_in j_in same = elim (number_cases nodes n i i_in) [
  | inl i_below ↦ elim (number_cases nodes n j j_in) [
    | inl j_below ↦ distinct i j i_below j_below (sym (entry-before d nodes n i i_below) ∙ same ∙ entry-before d nodes n j j_below)
    | inr j_last ↦ absurd (absent i i_below (sym (entry-before d nodes n i i_below) ∙ same ∙ entry-last d nodes n j j_last))
  ]
  | inr i_last ↦ elim (number_cases nodes n j j_in) [
    | inl j_below ↦ absurd (absent j j_below (sym (entry-before d nodes n j j_below) ∙ sym same ∙ entry-last d nodes n i i_last))
    | inr j_last ↦ i_last ∙ sym j_last
  ]
]
