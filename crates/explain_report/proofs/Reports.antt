-- What is said in a report, one after another.
use Rattle.std.proofs.Common.{◌∙◌, ap, sym, List, ℕ, ◌+◌, [], ◌∷◌, ◌++◌, append_assoc, append-nil, replicate, Option, Some, None}
use Rattle.std.proofs.lemmas.List.{replicate_more}
use Rattle.explain_report.specs.Said.{Adds}

-- nothing is said of no bytes
pub nothing : (byte : ℕ) (old : Option (List ℕ)) → Adds (replicate 0 byte) old old
nothing byte None = tt
nothing byte (Some a) = sym (append-nil a)

-- a byte behind some of it is one more of it
pub once_more : (n byte : ℕ) (old mid new : Option (List ℕ)) → Adds (replicate n byte) old mid → Adds (byte ∷ []) mid new → Adds (replicate (n + 1) byte) old new
once_more n byte old mid None h k = tt
once_more n byte old None (Some c) h k = absurd k
once_more n byte None (Some b) (Some c) h k = absurd h
once_more n byte (Some a) (Some b) (Some c) h k = k ∙ (ap (λ xs. xs ++ (byte ∷ [])) h ∙ (append_assoc a (replicate n byte) (byte ∷ []) ∙ ap (λ xs. a ++ xs) (replicate_more n byte)))
