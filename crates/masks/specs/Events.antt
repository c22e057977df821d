-- The events and tasks of a file, for Q-6. Assumes nothing.
use Rattle.std.specs.Prelude.{List, [], ◌∷◌, Bool, true, false, not, ℕ, get_or, eqb}
use Rattle.grammar.specs.Grammar.{TASK, EVENT, UINT32, INT32, UINT64, INT64}
use Rattle.token.specs.Find.{pick, both, either}
use Rattle.token.specs.Words.{bytes_of, same}
use Rattle.meaning.specs.Syntax.{AttributeType, integer, string, boolean, enum, float, reference, Definition, Definitions, no_more, define, Object, File}
use Rattle.meaning.specs.Kinds.{same_kind}
use Rattle.meaning.specs.Scopes.{of_kind}
use Rattle.meaning.specs.Resolving.{Value, number, truth, auto, enumerator, object, Resolved, end, resolved, object_values, string as string-value, float as float_value}
use Rattle.masks.specs.Masks.{Mask, given, automatic, Task}

-- "EVENT itself" has a "UINT64 single MASK" -------------------------------------------------------------------------------------------------

unfoldable pub is_uint64 : AttributeType → Bool
is_uint64 (integer UINT32) = false
is_uint64 (integer INT32) = false
is_uint64 (integer UINT64) = true
is_uint64 (integer INT64) = false
is_uint64 string = false
is_uint64 boolean = false
is_uint64 enum = false
is_uint64 float = false
is_uint64 (reference k) = false

-- The attribute is called MASK.
unfoldable pub is_mask : Definition → Bool
is_mask d = same d.name.bytes (bytes_of "MASK")

unfoldable pub has_mask : Definitions → Bool
has_mask no_more = false
has_mask (define d vs ds) = either (both (is_mask d) (both (is_uint64 d.type) (not d.list))) (has_mask ds)

-- "one where EVENT itself has no UINT64 single MASK is refused as not plannable".
unfoldable pub plannable : File → Bool
plannable f = has_mask (of_kind EVENT f.specs)

-- Events -----------------------------------------------------------------------------------------------------------------------------------

-- The events, "in object order".
unfoldable pub events : List Object → List Object
events [] = []
events (x ∷ xs) = let r = events xs in pick (same_kind EVENT x.kind) (x ∷ r) r

-- A mask by its value, "given" or "AUTO": where the file is plannable, it is a number or AUTO.
unfoldable pub mask_by : Value → Mask
mask_by (number n) = given n.amount
mask_by (truth b) = automatic
mask_by auto = automatic
mask_by string-value = automatic
mask_by float_value = automatic
mask_by (enumerator e) = automatic
mask_by (object o) = automatic

-- The MASK among an event's resolved values, which are in its own scope; what is under them does not count.
unfoldable pub mask_in : Resolved → Mask
mask_in end = automatic
mask_in (resolved t us rest) = let r = mask_in rest in pick (is_mask t.definition) (mask_by t.value) r

unfoldable pub masks_in : File → List Object → List Mask
masks_in f [] = []
masks_in f (x ∷ xs) = mask_in (object_values f x) ∷ masks_in f xs

unfoldable pub masks_of : File → List Mask
masks_of f = masks_in f (events f.objects)

-- Tasks ------------------------------------------------------------------------------------------------------------------------------------

-- A value leads to the object of row o.
unfoldable pub leads : ℕ → Value → Bool
leads o (number n) = false
leads o (truth b) = false
leads o auto = false
leads o string-value = false
leads o float_value = false
leads o (enumerator e) = false
leads o (object x) = eqb x o

-- One of these resolved values, "nested ones too", leads to the object of row o.
unfoldable pub refers : ℕ → Resolved → Bool
refers o end = false
refers o (resolved t us rest) = let a = refers o us in let b = refers o rest in either (leads o t.value) (either a b)

-- The rows of the objects.
unfoldable pub rows_of : List Object → List ℕ
rows_of [] = []
rows_of (x ∷ xs) = x.row ∷ rows_of xs

-- "A task's events are all its resolved references to EVENT, nested ones too": the events' rows are es.
unfoldable pub tasks_in : File → List ℕ → List Object → List Task
tasks_in f es [] = []
tasks_in f es (x ∷ xs) = let r = tasks_in f es xs in pick (same_kind TASK x.kind) ((λ j. refers (get_or es j 0) (object_values f x)) ∷ r) r

unfoldable pub tasks_of : File → List Task
tasks_of f = tasks_in f (rows_of (events f.objects)) f.objects
