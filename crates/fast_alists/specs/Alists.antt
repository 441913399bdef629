-- Association lists as objects. An element that is no pair is passed over, and any object that is no cons ends a list.
use Rattle.std.specs.Prelude.{List, Bool, false, cond, is_some, Option, None, Some}
use Rattle.gl_logic.specs.Object.{Object, Cons}
use Rattle.gl_logic.specs.ObjectEq.{object_eq}
use Rattle.hons_arena.specs.declared.id.Id.{Id}
use Rattle.hons_arena.specs.Ids.{object_at}

-- whether an element is a pair with this key
abbrev pub has_key : Object → Object → Bool
has_key key (Cons k v) = object_eq key k
has_key key _ = false

-- the first pair with this key
abbrev pub first_pair : Object → Object → Option Object
first_pair key (Cons x rest) = cond (has_key key x) (Some x) (first_pair key rest)
first_pair key _ = None

-- an element put in front, where it is a pair whose key no pair has
abbrev pub with_pair : Object → Object → Object
with_pair (Cons k v) ans = cond (is_some (first_pair k ans)) ans (Cons (Cons k v) ans)
with_pair _ ans = ans

-- each element in turn put in front of the answer
abbrev pub forked : Object → Object → Object
forked (Cons x rest) ans = forked rest (with_pair x ans)
forked _ ans = ans

-- the list with a pair of this key and value in front
abbrev pub with_key : Object → Object → Object → Object
with_key key value alist = Cons (Cons key value) alist

-- ---- the same of ids, in an arena that holds these objects
abbrev pub pair_object : List Object → Id → Id → Option Object
pair_object objects key alist = first_pair (object_at objects key) (object_at objects alist)

abbrev pub with_pair_object : List Object → Id → Id → Object
with_pair_object objects element ans = with_pair (object_at objects element) (object_at objects ans)

abbrev pub forked_object : List Object → Id → Id → Object
forked_object objects alist ans = forked (object_at objects alist) (object_at objects ans)
