-- The words of the command line, and the command that they make.
use Rattle.std.specs.Prelude.{ℕ, if◌then◌else◌, Bool, true, false, bytes_eq, drop, List, [], ◌∷◌, codes, Option, Some, None, option_map, option_and_then}
use Rattle.clap.specs.Words.{App, Rule, Row, Text, new_app, new_rule, with_rule, first_of, matches_of, fault_of}
use Rattle.clap.specs.declared.builder.ArgAction.TheVariants.{Set}
use Rattle.command_line.specs.Options.{number_within, workers_from, settings_from}
use Rattle.gl_decide.specs.Bounds.{Bounds}
use Rattle.gl_words.specs.declared.proof_part.ProofPart.{ProofPart}
use Rattle.gl_words.specs.declared.proof_part.ProofPart.TheVariants.{Cnf, Log}

-- ---- the words that are taken
-- an option that takes one value
abbrev pub option_rule : Text → Rule
option_rule name = record (new_rule name) { long = Some name; action = Some Set }

-- eight such options, and the name of a book
unfoldable pub plain_app : App
plain_app = with_rule (with_rule (with_rule (with_rule (with_rule (with_rule (with_rule (with_rule (with_rule (new_app (codes "gl")) (option_rule (codes "workers"))) (option_rule (codes "steps"))) (option_rule (codes "cells"))) (option_rule (codes "nodes"))) (option_rule (codes "clauses"))) (option_rule (codes "enum-bits"))) (option_rule (codes "generate"))) (option_rule (codes "proof"))) (new_rule (codes "BOOK"))

-- the words are those behind the program's name, and there are no flags for help and version
unfoldable pub gl_app : App
gl_app = record plain_app { top = record plain_app.top { no_binary_name = true; disable_help_flag = true; disable_version_flag = true } }

-- behind `lrat`: the number of workers, and the names of two texts
unfoldable pub plain_lrat_app : App
plain_lrat_app = with_rule (with_rule (with_rule (new_app (codes "lrat")) (option_rule (codes "workers"))) (new_rule (codes "CNF"))) (new_rule (codes "LOG"))

unfoldable pub lrat_app : App
lrat_app = record plain_lrat_app { top = record plain_lrat_app.top { no_binary_name = true; disable_help_flag = true; disable_version_flag = true } }

-- ---- commands
module _ {X : Type 0} where
  abbrev pub is_empty : List X → Bool
  is_empty [] = true
  is_empty (x ∷ xs) = false

-- where the bytes of the book come from
pub data Source : Type 0 where
  -- the book of this name
  Book : Text → Source
  -- so many theorems of the generator
  Generated : ℕ → Source

pub record Command : Type 0 where
  pub workers : ℕ
  pub bounds : Bounds
  pub source : Source

-- exactly one of a book and a number of theorems is there
abbrev pub source_from : Option Text → Option Text → Option Source
source_from (Some name) None = Some (Book name)
source_from None (Some text) = option_map Generated (number_within 0 10000 text)
source_from _ _ = None

abbrev pub command_from : List Row → Option Command
command_from rows = option_and_then (λ settings. option_map (λ source. record { workers = settings.workers; bounds = settings.bounds; source = source })
    (source_from (first_of (codes "BOOK") rows) (first_of (codes "generate") rows))) (settings_from rows)

-- ---- what words ask for
pub data Order : Type 0 where
  -- the transcript of a command
  Transcript : Command → Order
  -- by these limits, this part of a proof of the last theorem of the book of this name
  Proof : Bounds → Text → ProofPart → Order
  -- the judgement, by so many workers, on the texts of these names: a formula, and a log
  Judge : ℕ → Text → Text → Order

-- the part of a proof that a text names
abbrev pub part_named : Text → Option ProofPart
part_named text = if bytes_eq text (codes "cnf") then Some Cnf else (if bytes_eq text (codes "log") then Some Log else None)

-- a proof is one of a book
abbrev pub proof_from : Source → Bounds → ProofPart → Option Order
proof_from (Book name) bounds part = Some (Proof bounds name part)
proof_from (Generated n) bounds part = None

-- a command without a word for a part asks for a transcript
abbrev pub order_by : Option Text → Command → Option Order
order_by None command = Some (Transcript command)
order_by (Some text) command = option_and_then (proof_from command.source command.bounds) (part_named text)

abbrev pub order_from : List Row → Option Order
order_from rows = option_and_then (order_by (first_of (codes "proof") rows)) (command_from rows)

-- what words without `lrat` ask for
abbrev pub command_of : List Text → Option Order
command_of words = if is_empty (fault_of gl_app words) then order_from (matches_of gl_app words) else None

-- both names are there
abbrev pub judge_from : List Row → Option Order
judge_from rows = option_and_then (λ workers. option_and_then (λ cnf. option_map (λ log. Judge workers cnf log)
    (first_of (codes "LOG") rows)) (first_of (codes "CNF") rows)) (workers_from rows)

abbrev pub judge_of : List Text → Option Order
judge_of words = if is_empty (fault_of lrat_app words) then judge_from (matches_of lrat_app words) else None

-- whether the first word is `lrat`
abbrev pub is_lrat : List Text → Bool
is_lrat [] = false
is_lrat (w ∷ ws) = bytes_eq w (codes "lrat")

-- what words ask for, where they ask for something
abbrev pub order_of : List Text → Option Order
order_of words = if is_lrat words then judge_of (drop 1 words) else command_of words
