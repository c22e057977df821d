-- What is found of the factored grammar by computation: it is LL(1). Assumes nothing.
use mathlib.Core.Path.{◌≡◌, refl}
use mathlib.Core.List.{List, [], ◌∷◌}
use mathlib.Core.Bool.{Bool, true, false, ◌&&◌, ◌||◌, not}
use Rattle.grammar.specs.Grammar.{Terminal, Class, Kind, Integer, tok, rule, matches, file, version, implementation, specs, spec, definitions, definition, attribute, reference, D, P, auto, mark, integer_range, numbers, boolean_range, float_range, enumerator, enumerators, default, own, application, objects, object, block, statements, statement, value, integers, strings, booleans, enums, floats, name, kind, type, integer, the, sg, IMPLEMENTATION, CPU, STRING, BOOLEAN, ENUM, FLOAT, rbrace, lsquare, rsquare, equals, semicolon, colon, comma}
use Rattle.grammar.specs.Factored.{Nonterminal, paper, span, Symbols, Choice, by, choices}
use Rattle.grammar.specs.Machine.{nullable, nullable_form, tries, begin, starts, move}
use Rattle.grammar.proofs.Choices.{all, nonterminals, classes, every_rule, every_class}
use Rattle.token.specs.Find.{is_there}

-- The form takes a token of class c.
unfoldable pub takes : Symbols → Class → Bool
unfolding move is_there
takes k c = is_there (move c k)

-- Trying a rule's forms one step deeper finds nothing else.
pub begin_is : (c : Class) (x : Nonterminal) → begin c x ≡ tries c (begin c) (choices x)
unfolding begin
begin_is c (paper file) = refl
begin_is c (paper version) = refl
begin_is c (paper implementation) = refl
begin_is c (paper specs) = refl
begin_is c (paper spec) = refl
begin_is c (paper definitions) = refl
begin_is c (paper definition) = refl
begin_is c (paper attribute) = refl
begin_is c (paper reference) = refl
begin_is c (paper D) = refl
begin_is c (paper P) = refl
begin_is c (paper auto) = refl
begin_is c (paper mark) = refl
begin_is c (paper integer_range) = refl
begin_is c span = refl
begin_is c (paper numbers) = refl
begin_is c (paper boolean_range) = refl
begin_is c (paper enumerator) = refl
begin_is c (paper enumerators) = refl
begin_is c (paper (default integers)) = refl
begin_is c (paper (default strings)) = refl
begin_is c (paper (default booleans)) = refl
begin_is c (paper (default enums)) = refl
begin_is c (paper (own integers)) = refl
begin_is c (paper (own strings)) = refl
begin_is c (paper (own booleans)) = refl
begin_is c (paper (own enums)) = refl
begin_is c (paper application) = refl
begin_is c (paper objects) = refl
begin_is c (paper object) = refl
begin_is c (paper block) = refl
begin_is c (paper statements) = refl
begin_is c (paper statement) = refl
begin_is c (paper value) = refl
begin_is c (paper float_range) = refl
begin_is c (paper (default floats)) = refl
begin_is c (paper (own floats)) = refl

-- At most one form of a rule takes a class.
unfoldable pub none_takes : {x : Nonterminal} → List (Choice x) → Class → Bool
unfolding takes
none_takes [] c = true
none_takes (by {f} p ∷ cs) c = not (takes f c) && none_takes cs c

unfoldable pub clear : {x : Nonterminal} → List (Choice x) → Class → Bool
unfolding takes none_takes
clear [] c = true
clear (by {f} p ∷ cs) c = (not (takes f c) || none_takes cs c) && clear cs c

clear_all : (k : Kind) (i : Integer) → all (λ x. all (clear (choices x)) (classes k i)) nonterminals ≡ true
unfolding clear
clear_all k i = refl

pub clear_is : (x : Nonterminal) (c : Class) → clear (choices x) c ≡ true
clear_is x = every_class (clear (choices x)) (λ k i. every_rule (λ y. all (clear (choices y)) (classes k i)) (clear_all k i) x)

-- What may stand behind a rule.
unfoldable pub follow : Nonterminal → List Terminal
follow (paper file) = []
follow (paper version) = the IMPLEMENTATION ∷ []
follow (paper implementation) = the CPU ∷ []
follow (paper specs) = sg rbrace ∷ []
follow (paper spec) = kind ∷ sg rbrace ∷ []
follow (paper definitions) = sg rbrace ∷ []
follow (paper definition) = integer ∷ the STRING ∷ the BOOLEAN ∷ the ENUM ∷ the FLOAT ∷ type ∷ sg rbrace ∷ []
follow (paper attribute) = integer ∷ the STRING ∷ the BOOLEAN ∷ the ENUM ∷ the FLOAT ∷ type ∷ sg rbrace ∷ []
follow (paper reference) = integer ∷ the STRING ∷ the BOOLEAN ∷ the ENUM ∷ the FLOAT ∷ type ∷ sg rbrace ∷ []
follow (paper D) = sg semicolon ∷ sg comma ∷ sg rsquare ∷ []
follow (paper P) = sg colon ∷ sg comma ∷ sg rsquare ∷ []
follow (paper auto) = sg lsquare ∷ name ∷ []
follow (paper mark) = sg equals ∷ sg colon ∷ sg semicolon ∷ []
follow (paper integer_range) = name ∷ []
follow span = sg rsquare ∷ []
follow (paper numbers) = sg rsquare ∷ []
follow (paper boolean_range) = name ∷ []
follow (paper float_range) = name ∷ []
follow (paper enumerator) = sg comma ∷ sg rsquare ∷ []
follow (paper enumerators) = sg rsquare ∷ []
follow (paper (default s)) = sg colon ∷ sg semicolon ∷ []
follow (paper (own s)) = sg colon ∷ sg semicolon ∷ []
follow (paper application) = []
follow (paper objects) = sg rbrace ∷ []
follow (paper object) = kind ∷ sg rbrace ∷ []
follow (paper block) = sg colon ∷ sg semicolon ∷ []
follow (paper statements) = sg rbrace ∷ []
follow (paper statement) = name ∷ sg rbrace ∷ []
follow (paper value) = sg colon ∷ sg semicolon ∷ []

unfoldable pub any_of : List Terminal → Class → Bool
unfolding matches
any_of [] c = false
any_of (a ∷ l) c = matches a c || any_of l c

unfoldable pub follows : Nonterminal → Class → Bool
unfolding follow any_of
follows x c = any_of (follow x) c

-- What may stand behind a rule that can be empty does not begin it.
unfoldable pub apart : Nonterminal → Class → Bool
unfolding nullable starts follows
apart x c = not (nullable x && starts x c && follows x c)

apart_all : (k : Kind) (i : Integer) → all (λ x. all (apart x) (classes k i)) nonterminals ≡ true
unfolding apart
apart_all k i = refl

pub apart_is : (x : Nonterminal) (c : Class) → apart x c ≡ true
apart_is x = every_class (apart x) (λ k i. every_rule (λ y. all (apart y) (classes k i)) (apart_all k i) x)

-- What a form has behind a rule may stand behind it, and where that can be empty, so may what stands behind the form.
unfoldable pub implies : Bool → Bool → Bool
implies true b = b
implies false b = true

unfoldable pub link : Nonterminal → Nonterminal → Symbols → Class → Bool
unfolding implies takes follows nullable_form
link x y f c = implies (takes f c) (follows y c) && implies (nullable_form f && follows x c) (follows y c)

unfoldable pub linked : Kind → Integer → Nonterminal → Symbols → Bool
unfolding link
linked k i x [] = true
linked k i x (tok a ∷ f) = linked k i x f
linked k i x (rule y ∷ f) = all (link x y f) (classes k i) && linked k i x f

unfoldable pub linked? : (k : Kind) (i : Integer) {x : Nonterminal} → Choice x → Bool
unfolding linked
linked? k i {x} (by {f} p) = linked k i x f

pub linked_all : (k : Kind) (i : Integer) → all (λ x. all (linked? k i) (choices x)) nonterminals ≡ true
unfolding linked? choices
linked_all k i = refl

-- Of the forms of a rule only the first may be `nothing`, and every other holds something that cannot be empty.
unfoldable pub not_nullable? : {x : Nonterminal} → Choice x → Bool
unfolding nullable_form
not_nullable? (by {f} p) = not (nullable_form f)

unfoldable pub proper : {x : Nonterminal} → List (Choice x) → Bool
unfolding not_nullable?
proper [] = true
proper (by {f = []} p ∷ cs) = all not_nullable? cs
proper (by {f = s ∷ f} p ∷ cs) = not (nullable_form (s ∷ f)) && all not_nullable? cs

proper_all : all (λ x. proper (choices x)) nonterminals ≡ true
unfolding proper choices
proper_all = refl

pub proper_is : (x : Nonterminal) → proper (choices x) ≡ true
proper_is = every_rule (λ x. proper (choices x)) proper_all
