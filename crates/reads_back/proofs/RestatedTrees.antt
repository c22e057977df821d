-- The words of a normal text's application are derived by the grammar, and mean the restated objects. Assumes nothing.
use mathlib.Core.Path.{◌≡◌, refl, sym, ◌∙◌, ap, ap₂, subst, subst₂}
use mathlib.Core.List.{List, [], ◌∷◌, ◌++◌, append_assoc, append-nil}
use Prim.Native.Nat.{ℕ, suc, ◌+◌}
use Rattle.token.specs.Words.{bytes_of}
use Rattle.grammar.specs.Grammar.{Kind, word, CPU, matches, sg, rbrace, semicolon, Form, ◌·◌, ◌▸◌, ∎, D, application, objects, block, statements, no_D, application_is, no_object, an_object, an_object_with, no_statement, a_statement, statement_is, value_number, value_string, value_float, value_auto, value_name, value_true, value_false, no_block, a_block, value as value-rule}
use Rattle.meaning.specs.Syntax.{Word, absent, through, state, Object, File, statements_in}
use Rattle.meaning.specs.Actions.{kind_of, Application, Block, Parts, stating, means}
use Rattle.meaning.specs.Resolving.{Resolved, end, resolved, all_values, how_many_values}
use Rattle.meaning.proofs.Unplaced.{unplaced_word}
use Rattle.reads_back.proofs.Restated.{given, opening, closing, equal_sign, stop, restated_word, closed_words, line_words, object_words, application_words, brace_after, restated, restated_object, restated_objects, Stateable, as_number, as_string, as_float, as_auto, as_name, as_true, as_false, SaidLines, SaidObjects, Said}
use Rattle.reads_back.proofs.WordTrees.{WordTrees, word_nil, word_leaf, word_node}

-- Statements ---------------------------------------------------------------------------------------------------------------------------------

-- A statement for each resolved value.
pub restated_count : (r : Resolved) (k : ℕ) → statements_in (restated r k) ≡ how_many_values r
unfolding statements_in restated how_many_values
restated_count end k = refl
restated_count (resolved t us rest) k =
    ap₂ (λ a b. suc (a + b)) (restated_count us (suc k)) (restated_count rest (suc k + how_many_values us))

-- The block behind a value, and its words.
unfoldable block_of : Resolved → Block
block_of us = record { brace = brace_after us; inside = λ k. restated us k }

unfoldable block_words : Resolved → List Word
block_words end = []
block_words (resolved t us rest) = opening ∷ (line_words (resolved t us rest) ++ (closing ∷ []))

closed_block : (us : Resolved) → block_words us ++ (stop ∷ []) ≡ closed_words us (line_words us)
unfolding block_words closed_words
closed_block end = refl
closed_block (resolved t us rest) = ap (opening ∷◌) (append_assoc (line_words (resolved t us rest)) (closing ∷ []) (stop ∷ []))

-- No D, and the semicolon.
stop_tree : WordTrees (D ▸ sg semicolon · ∎) (stop ∷ []) (tt, (stop, tt))
unfolding means matches given
stop_tree = word_node no_D word_nil (word_leaf stop refl word_nil)

block_tree : (us : Resolved) → WordTrees (statements ▸ sg rbrace · ∎) (line_words us ++ (closing ∷ [])) (restated us, (closing, tt))
    → WordTrees (block ▸ ∎) (block_words us) (block_of us, tt)
unfolding means matches given block_words block_of brace_after restated
block_tree end s = word_node no_block word_nil word_nil
block_tree (resolved t us rest) s =
    subst (λ l. WordTrees (block ▸ ∎) l (block_of (resolved t us rest), tt)) (append-nil (block_words (resolved t us rest)))
    (word_node a_block (word_leaf opening refl s) word_nil)

value_tree : {f : Form} {ws : List Word} {m : Parts f} (w : Word) (us : Resolved) → Stateable w.class us → WordTrees (block ▸ ∎) (block_words us) (block_of us, tt)
    → WordTrees f ws m → WordTrees (value-rule ▸ f) (w ∷ (block_words us ++ ws)) (record { word = w; block = block_of us }, m)
unfolding means block_words block_of brace_after restated
value_tree w end (as_number h) b more = word_node value_number (word_leaf w h word_nil) more
value_tree w end (as_string h) b more = word_node value_string (word_leaf w h word_nil) more
value_tree w end (as_float h) b more = word_node value_float (word_leaf w h word_nil) more
value_tree w end (as_auto h) b more = word_node value_auto (word_leaf w h word_nil) more
value_tree w us (as_name h) b more = word_node value_name (word_leaf w h b) more
value_tree w us (as_true h) b more = word_node value_true (word_leaf w h b) more
value_tree w us (as_false h) b more = word_node value_false (word_leaf w h b) more

-- The words of a line and of those behind it.
line_grouped : (a b c : Word) (us rest : Resolved) (ws : List Word)
    → ((a ∷ b ∷ c ∷ (block_words us ++ (stop ∷ []))) ++ (line_words rest ++ [])) ++ ws ≡ (a ∷ b ∷ c ∷ (closed_words us (line_words us) ++ line_words rest)) ++ ws
line_grouped a b c us rest ws = ap₂ (λ x y. (a ∷ b ∷ c ∷ (x ++ y)) ++ ws) (closed_block us) (append-nil (line_words rest))

-- The lines of resolved values are their restated statements.
lines_tree : (r : Resolved) {f : Form} {ws : List Word} {m : Parts f} → SaidLines r → WordTrees f ws m
    → WordTrees (statements ▸ f) (line_words r ++ ws) (restated r, m)
unfolding means matches given line_words restated stating block_of unplaced_word
lines_tree end h more = word_node no_statement word_nil more
lines_tree (resolved t us rest) {f} {ws} {m} (h, hs, hr) more =
    let w = restated_word t.value t.word in
    let b = block_tree us (lines_tree us hs (word_leaf closing refl word_nil)) in
    let v = value_tree w us h.form b stop_tree in
    subst₂ (λ l k. WordTrees (statements ▸ f) l (k, m))
    (line_grouped (unplaced_word t.definition.name) equal_sign w us rest ws)
    (λ i k. state (record { number = k; name = unplaced_word t.definition.name; value = w; brace = brace_after us })
    (restated us (suc k)) (restated rest (suc k + restated_count us (suc k) i)))
    (word_node a_statement (word_node statement_is (word_leaf (unplaced_word t.definition.name) h.name.class_is (word_leaf equal_sign refl v))
    (lines_tree rest hr word_nil)) more)

-- Objects ------------------------------------------------------------------------------------------------------------------------------------

-- The objects that the words say, of which the first has the row n, and its first statement the number k.
unfoldable said_objects : List Object → List Resolved → ℕ → ℕ → List Object
said_objects [] rs n k = []
said_objects (x ∷ xs) [] n k = []
said_objects (x ∷ xs) (r ∷ rs) n k =
    record { row = n; kind = kind_of x.word.class; word = unplaced_word x.word; name = unplaced_word x.name; block = absent; parts = 1; statements = restated r k }
    ∷ said_objects xs rs (suc n) (k + how_many_values r)

-- They are the restated objects.
said_restated : (xs : List Object) (rs : List Resolved) (n k : ℕ) → SaidObjects xs rs n → said_objects xs rs n k ≡ restated_objects xs rs k
unfolding said_objects restated_objects restated_object
said_restated [] rs n k h = refl
said_restated (x ∷ xs) [] n k h = absurd h
said_restated (x ∷ xs) (r ∷ rs) n k (h, hs) =
    ap₂ ◌∷◌
    (ap₂ (λ (a : ℕ) (b : Kind). record { row = a; kind = b; word = unplaced_word x.word; name = unplaced_word x.name; block = absent; parts = 1; statements = restated r k })
    (sym h.row_is) h.kind_is)
    (said_restated xs rs (suc n) (k + how_many_values r) hs)

object_grouped : (a b : Word) (l m ws : List Word)
    → ((a ∷ b ∷ opening ∷ (l ++ (closing ∷ stop ∷ []))) ++ (m ++ [])) ++ ws ≡ (a ∷ b ∷ opening ∷ (l ++ (closing ∷ stop ∷ m))) ++ ws
object_grouped a b l m ws =
    ap (λ x. (a ∷ b ∷ opening ∷ x) ++ ws) (append_assoc l (closing ∷ stop ∷ []) (m ++ []) ∙ ap (λ y. l ++ (closing ∷ stop ∷ y)) (append-nil m))

objects_tree : {f : Form} {ws : List Word} {m : Parts f} (xs : List Object) (rs : List Resolved) (n : ℕ) → SaidObjects xs rs n → WordTrees f ws m
    → WordTrees (objects ▸ f) (object_words xs rs ++ ws) (said_objects xs rs, m)
unfolding means matches given object_words said_objects unplaced_word through absent
objects_tree [] rs n h more = word_node no_object word_nil more
objects_tree (x ∷ xs) [] n h more = absurd h
objects_tree {f} {ws} {m} (x ∷ xs) (r ∷ rs) n (h, hs) more =
    subst₂ (λ l k. WordTrees (objects ▸ f) l (k, m))
    (object_grouped (unplaced_word x.word) (unplaced_word x.name) (line_words r) (object_words xs rs) ws)
    (λ i n k. record { row = n; kind = kind_of x.word.class; word = unplaced_word x.word; name = unplaced_word x.name; block = absent; parts = 1; statements = restated r k }
    ∷ said_objects xs rs (suc n) (k + restated_count r k i))
    (word_node an_object (word_node an_object_with (word_leaf (unplaced_word x.word) h.word_class (word_leaf (unplaced_word x.name) h.name.class_is
    (word_leaf opening refl (lines_tree r h.lines (word_leaf closing refl stop_tree))))) (objects_tree xs rs (suc n) hs word_nil)) more)

-- The application ----------------------------------------------------------------------------------------------------------------------------

-- The application of the restated file f.
unfoldable pub restated_application : File → Application
restated_application f = record { name = unplaced_word f.cpu; objects = restated_objects f.objects (all_values f f.objects) 0 }

-- The words of the application of f are those of its restated application.
pub application_tree : (f : File) → Said f → WordTrees (application ▸ ∎) (application_words f (all_values f f.objects)) (restated_application f, tt)
unfolding means matches given application_words restated_application unplaced_word
application_tree f h =
    let rs = all_values f f.objects in
    subst₂ (λ l (xs : List Object). WordTrees (application ▸ ∎) l (record { name = unplaced_word f.cpu; objects = xs }, tt))
    (append-nil (application_words f rs))
    (said_restated f.objects rs 0 0 h.objects)
    (word_node application_is (word_leaf (given (word CPU) (bytes_of "CPU")) refl (word_leaf (unplaced_word f.cpu) h.cpu.class_is
    (word_leaf opening refl (objects_tree f.objects rs 0 h.objects (word_leaf closing refl stop_tree))))) word_nil)
