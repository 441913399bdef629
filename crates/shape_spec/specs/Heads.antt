-- The words with which shapes and items begin.
use Rattle.std.specs.Prelude.{ℕ, Bool, true, false, ◌==◌, if◌then◌else◌, List, take, codes, bytes_eq, Option, Some, None}
use Rattle.gl_logic.specs.Object.{Object, Symbol}
use Rattle.gl_logic.specs.Wording.{text_of}
use Rattle.shape_spec.specs.declared.words.Head.{Head}
use Rattle.shape_spec.specs.declared.words.Head.TheVariants as head
use Rattle.shape_spec.specs.declared.words.ItemWord.{ItemWord}
use Rattle.shape_spec.specs.declared.words.ItemWord.TheVariants as item

-- by a symbol's text: any other keyword whose name begins with `G-` is reserved
unfoldable pub word_head : List ℕ → Head
word_head word =
    if bytes_eq word (codes ":G-BOOLEAN") then head.Boolean
    else if bytes_eq word (codes ":G-INTEGER") then head.Integer
    else if bytes_eq word (codes ":G-ITE") then head.Choice
    else if bytes_eq word (codes ":G-CONCRETE") then head.Concrete
    else if bytes_eq (take 3 word) (codes ":G-") then head.Reserved
    else head.Plain

-- the marks of backquote and of comma are symbols 2 and 3
abbrev pub head_of : List (List ℕ) → Object → Head
head_of names (Symbol t) = if t == 2 then head.Backquote else if t == 3 then head.Comma else word_head (text_of names t)
head_of names _ = head.Plain

abbrev pub is_plain : Head → Bool
is_plain head.Plain = true
is_plain _ = false

abbrev pub is_boolean : Head → Bool
is_boolean head.Boolean = true
is_boolean _ = false

-- the items of `auto-bindings`
unfoldable pub item_word : List ℕ → Option ItemWord
item_word word =
    if bytes_eq word (codes ":NAT") then Some item.Nat
    else if bytes_eq word (codes ":INT") then Some item.Int
    else if bytes_eq word (codes ":BOOLEAN") then Some item.Boolean
    else if bytes_eq word (codes ":SEQ") then Some item.Seq
    else if bytes_eq word (codes ":MIX") then Some item.Mix
    else None

abbrev pub item_of : List (List ℕ) → Object → Option ItemWord
item_of names (Symbol t) = item_word (text_of names t)
item_of names _ = None
