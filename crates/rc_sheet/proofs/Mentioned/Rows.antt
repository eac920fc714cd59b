-- Which words the forms mention that name something, and owners, which mention nothing.
use Prim.Native.String.{String}
use Rattle.std.proofs.Common.{◌≡◌, ℕ, Bool, true, false, if◌then◌else◌, ◌||◌, List, [], ◌∷◌, ◌++◌, get_or, codes, bytes_eq, slice_get, ℤ, Option, Some, None, option_map, refl, sym, subst, ap, ap₂, ◌∙◌, append_assoc, eqb-true}
use Rattle.std.proofs.lemmas.Bool.{cond-true, cond-false, or_from, false_from_ne_true}
use Rattle.std.proofs.lemmas.List.{append-nil}
use Rattle.std.proofs.lemmas.Option.{get_or_from_slice_get, none-some, same_Some}
use Rattle.std.proofs.lemmas.Slice.Eq.{bytes_eq-Decides}
use Rattle.rc_base.specs.Literal.{integer}
use Rattle.rc_base.specs.Tree.{Tree, word, list, Trees, nil, cons}
use Rattle.rc_sheet_spec.specs.Sheet.{Names, Sort, player_sort, LocKind, vloc, iloc, hloc, mem, LocName, Who, game, current_player, current_team, team_of_current, team_of_var, who_var, Loc, Num}
use Rattle.rc_sheet_spec.specs.Mentions.{Mention, attr_name, value_name, map_name, loc_name, num_name, var_name, in_loc, in_num}
use Rattle.rc_sheet_spec.specs.FormMentions.{is_kind, is_measure, is_binder, word_of, var_words, all_var_words, is_text}
use Rattle.rc_sheet_spec.specs.Rows.{◌▸◌, End, Row, Word, Atom}
use Rattle.rc_base.specs.Words.{is_variable}
use Rattle.rc_sheet_spec.specs.Naming.{Naming, Scope, kind_word, Named, Binder, InScope, Literal, KindOf}
use Rattle.rc_sheet_spec.specs.StandsExpressions.{StandsOwner, StandsHolder, StandsLoc, StandsNum}
use Rattle.rc_sheet.proofs.Mentioned.Common.{Kind, attrs, values, maps, locs, nums, vars, said, words_in, all_words_in, own, said-append, words_in-word, words_in-list, Says, SayAll, behind_silent, behind_word, behind_part, no_part, text_silent, alone, is_sort_word, Speaks, Speak, end_speaks, last_speaks, atom_then, tells, IsHead, head_at, IsPlain, own-plain, no_kind, no_number, row_other, plain_speaks}

-- what depends on the first byte of a variable
at_variable : (test : List ℕ → Bool) → ((bytes : List ℕ) → test (39 ∷ bytes) ≡ false) → (bytes : List ℕ)
    → is_variable bytes ≡ true → test bytes ≡ false
at_variable test no_test [] is = absurd cc
at_variable test no_test (b ∷ bytes) is =
    subst (λ first. test (first ∷ bytes) ≡ false) (sym (eqb-true b 39 is)) (no_test bytes)

-- a variable is no word of a kind
pub variable_other : (bytes : List ℕ) (from to : ℕ) → is_variable bytes ≡ true → is_sort_word (word bytes from to) ≡ false
variable_other bytes from to = at_variable (λ b. is_sort_word (word b from to)) (λ b. refl) bytes

-- a variable as the head of a list tells nothing
variable_plain : (bytes : List ℕ) (from to : ℕ) → is_variable bytes ≡ true → IsPlain (word bytes from to)
variable_plain bytes from to is =
    record {
      of_map = at_variable (λ b. is_measure (word b from to)) (λ b. refl) bytes is;
      of_attr = at_variable (λ b. is_text "attr" (word b from to) || is_text "partition" (word b from to)) (λ b. refl) bytes is;
      of_value = at_variable (λ b. is_text "is" (word b from to)) (λ b. refl) bytes is;
      of_var = at_variable (λ b. is_binder (word b from to)) (λ b. refl) bytes is;
    }

-- an atom that is no word of a kind
pub word_speaks : {kind : Kind} {names : Names} {W : List ℕ → Type 0}
    → ((bytes : List ℕ) (from to : ℕ) → W bytes → is_sort_word (word bytes from to) ≡ false) → Speaks kind names (Word W) []
word_speaks {kind} {names} {W} other = record { says = word_says; other = word_other }
  where
    word_says : (tree : Tree) → Word W tree → Says kind names [] tree
    word_says (word bytes from to) is = record { same = sym (words_in-word kind bytes from to) }
    word_says (list parts from to) is = absurd is

    word_other : (tree : Tree) → Word W tree → is_sort_word tree ≡ false
    word_other (word bytes from to) is = other bytes from to is
    word_other (list parts from to) is = absurd is

-- an atom with this text
pub text_speaks : {kind : Kind} {names : Names} (text : String) → is_sort_word (word (codes text) 0 0) ≡ false
    → Speaks kind names (Atom text) []
text_speaks text other = word_speaks (λ bytes from to is. subst (λ b. is_sort_word (word b from to) ≡ false) (sym is) other)

-- a form that nothing has
pub nothing_speaks : {kind : Kind} {names : Names} {ms : List Mention} → Speaks kind names (λ form. ⊥) ms
nothing_speaks = record { says = λ tree stands. absurd stands; other = λ tree stands. absurd stands }

-- a variable in scope
pub variable_speaks : {kind : Kind} {names : Names} (scope : Scope) (sort : Sort) (var : ℕ)
    → Speaks kind names (InScope scope sort var) []
variable_speaks scope sort var = word_speaks (λ bytes from to is. variable_other bytes from to is.1)

-- a word that spells no number isn't one that does
not_text : (text : String) (bytes : List ℕ) (value : ℤ) → integer (codes text) ≡ None → integer bytes ≡ Some value
    → bytes_eq bytes (codes text) ≡ false
not_text text bytes value no_number is =
    false_from_ne_true _
    (λ same. none-some value (sym no_number ∙ ap integer (sym ((bytes_eq-Decides bytes (codes text)).0 same)) ∙ is))

-- a number that is written
pub literal_speaks : {kind : Kind} {names : Names} (value : ℤ) → Speaks kind names (Literal value) []
literal_speaks value =
    word_speaks
    (λ bytes from to is.
    or_from _ _
    (or_from _ _
    (or_from _ _ (or_from _ _ (not_text "vloc" bytes value refl is) (not_text "iloc" bytes value refl is))
    (not_text "hloc" bytes value refl is)) (not_text "mem" bytes value refl is)) (not_text "sto" bytes value refl is))

-- a list as the head of a list tells nothing
list_plain : (P : Trees → Type 0) (tree : Tree) → Row P tree → IsPlain tree
list_plain P (word bytes from to) stands = absurd stands
list_plain P (list parts from to) stands = record { of_map = refl; of_attr = refl; of_value = refl; of_var = refl }

-- two words alone
two_words_speak : {kind : Kind} {names : Names} (first second : String) → tells false false false false first ≡ true
    → is_sort_word (word (codes second) 0 0) ≡ false → Speaks kind names (Row (Atom first ▸ Atom second ▸ End)) []
two_words_speak {kind} {names} first second told other =
    let other' : Speaks kind names (Atom second) [] = text_speaks second other in
    plain_speaks first told (other'.other) (atom_then end_speaks)

-- owners mention nothing
pub owner_speaks : {kind : Kind} {names : Names} (scope : Scope) (who : Who) → Speaks kind names (StandsOwner scope who) []
owner_speaks scope game = nothing_speaks
owner_speaks scope current_player = two_words_speak "current" "player" refl refl
owner_speaks scope current_team = two_words_speak "current" "team" refl refl
owner_speaks {kind = kind} {names = names} scope team_of_current =
    plain_speaks "team" refl ((text_speaks {kind = kind} {names = names} "of" refl).other)
    (atom_then (last_speaks (two_words_speak "current" "player" refl refl)))
owner_speaks {kind = kind} {names = names} scope (team_of_var var) =
    plain_speaks "team" refl ((text_speaks {kind = kind} {names = names} "of" refl).other)
    (atom_then (last_speaks (variable_speaks scope player_sort var)))
owner_speaks scope (who_var var) = variable_speaks scope player_sort var

-- and neither do holders
pub holder_speaks : {kind : Kind} {names : Names} (scope : Scope) (who : Who) → Speaks kind names (StandsHolder scope who) []
holder_speaks scope game = text_speaks "game" refl
holder_speaks scope current_player = owner_speaks scope current_player
holder_speaks scope current_team = owner_speaks scope current_team
holder_speaks scope team_of_current = owner_speaks scope team_of_current
holder_speaks scope (team_of_var var) = owner_speaks scope (team_of_var var)
holder_speaks scope (who_var var) = owner_speaks scope (who_var var)

-- a variable's form tells nothing as a head
scope_plain : (scope : Scope) (sort : Sort) (var : ℕ) (tree : Tree) → InScope scope sort var tree → IsPlain tree
scope_plain scope sort var (word bytes from to) stands = variable_plain bytes from to stands.1
scope_plain scope sort var (list parts from to) stands = absurd stands

-- a holder tells nothing as a head
holder_plain : (scope : Scope) (who : Who) (tree : Tree) → StandsHolder scope who tree → IsPlain tree
holder_plain scope game tree stands = head_at "game" tree stands refl
holder_plain scope current_player tree stands = list_plain _ tree stands
holder_plain scope current_team tree stands = list_plain _ tree stands
holder_plain scope team_of_current tree stands = list_plain _ tree stands
holder_plain scope (team_of_var var) tree stands = list_plain _ tree stands
holder_plain scope (who_var var) tree stands = scope_plain scope player_sort var tree stands

-- a list says what its parts say, and behind them what it mentions itself
pub row_says : (kind : Kind) (names : Names) (head : Tree) (rest : Trees) (from to : ℕ) (ms new : List Mention)
    → is_binder head ≡ false → SayAll kind names ms (cons head rest) → said kind names new ≡ own kind (cons head rest)
    → Says kind names (ms ++ new) (list (cons head rest) from to)
row_says kind names head rest from to ms new unbound parts itself =
    record {
      same =
          said-append kind names ms new
          ∙ ap₂ ◌++◌ (parts.same) itself
          ∙ sym (words_in-list kind head rest from to unbound);
    }

-- the word with a number
pub named_word : (words : List (List ℕ)) (number : ℕ) (bytes : List ℕ) → slice_get words number ≡ Some bytes
    → get_or words number [] ∷ [] ≡ bytes ∷ []
named_word words number bytes is = ap (λ word. word ∷ []) (get_or_from_slice_get words number bytes [] is)

-- an attribute behind a card or cards
own-attr : (kind : Kind) (names : Names) (number : ℕ) (head second : Tree) (bytes : List ℕ) (from to : ℕ)
    → IsHead false true false false head → is_sort_word second ≡ false → slice_get names.attrs number ≡ Some bytes
    → said kind names (attr_name number ∷ []) ≡ own kind (cons head (cons second (cons (word bytes from to) nil)))
own-attr attrs names number head second bytes from to told other is =
    named_word names.attrs number bytes is ∙ sym (cond-true _ _ _ told.of_attr)
own-attr values names number head second bytes from to told other is = refl
own-attr maps names number head second bytes from to told other is = refl
own-attr locs names number head second bytes from to told other is = sym (cond-false _ _ _ (no_kind second other))
own-attr nums names number head second bytes from to told other is = sym (cond-false _ _ _ (no_number second other))
own-attr vars names number head second bytes from to told other is = refl

-- a point map behind `using`
own-map : (kind : Kind) (names : Names) (number : ℕ) (head second third : Tree) (bytes : List ℕ) (from to : ℕ)
    → IsHead true false false false head → slice_get names.maps number ≡ Some bytes
    → said kind names (map_name number ∷ []) ≡ own kind (cons head (cons second (cons third (cons (word bytes from to) nil))))
own-map attrs names number head second third bytes from to told is = sym (cond-false _ _ _ told.of_value)
own-map values names number head second third bytes from to told is = sym (cond-false _ _ _ told.of_value)
own-map maps names number head second third bytes from to told is =
    named_word names.maps number bytes is ∙ sym (cond-true _ _ _ told.of_map)
own-map locs names number head second third bytes from to told is = refl
own-map nums names number head second third bytes from to told is = refl
own-map vars names number head second third bytes from to told is = refl

-- an attribute and a value
own-value : (kind : Kind) (names : Names) (attr value : ℕ) (head second : Tree) (a v : List ℕ) (from to from' to' : ℕ)
    → IsHead false false true false head → slice_get names.attrs attr ≡ Some a → slice_get names.values value ≡ Some v
    → said kind names (attr_name attr ∷ value_name value ∷ [])
    ≡ own kind (cons head (cons second (cons (word a from to) (cons (word v from' to') nil))))
own-value attrs names attr value head second a v from to from' to' told is is' =
    named_word names.attrs attr a is ∙ sym (cond-true _ _ _ told.of_value)
own-value values names attr value head second a v from to from' to' told is is' =
    named_word names.values value v is' ∙ sym (cond-true _ _ _ told.of_value)
own-value maps names attr value head second a v from to from' to' told is is' = sym (cond-false _ _ _ told.of_map)
own-value locs names attr value head second a v from to from' to' told is is' = refl
own-value nums names attr value head second a v from to from' to' told is is' = refl
own-value vars names attr value head second a v from to from' to' told is is' = refl

-- a location
own-loc : (kind : Kind) (names : Names) (number : ℕ) (head second : Tree) (bytes : List ℕ) (from to : ℕ)
    → IsPlain head → is_kind second ≡ true → is_text "sto" second ≡ false → slice_get names.locs number ≡ Some bytes
    → said kind names (loc_name number ∷ []) ≡ own kind (cons head (cons second (cons (word bytes from to) nil)))
own-loc attrs names number head second bytes from to told yes_kind no_sto is = sym (cond-false _ _ _ told.of_attr)
own-loc values names number head second bytes from to told yes_kind no_sto is = refl
own-loc maps names number head second bytes from to told yes_kind no_sto is = refl
own-loc locs names number head second bytes from to told yes_kind no_sto is =
    named_word names.locs number bytes is ∙ sym (cond-true _ _ _ yes_kind)
own-loc nums names number head second bytes from to told yes_kind no_sto is = sym (cond-false _ _ _ no_sto)
own-loc vars names number head second bytes from to told yes_kind no_sto is = refl

-- a stored number
own-num : (kind : Kind) (names : Names) (number : ℕ) (head second : Tree) (bytes : List ℕ) (from to : ℕ)
    → IsPlain head → is_kind second ≡ false → is_text "sto" second ≡ true → slice_get names.nums number ≡ Some bytes
    → said kind names (num_name number ∷ []) ≡ own kind (cons head (cons second (cons (word bytes from to) nil)))
own-num attrs names number head second bytes from to told no_kind' yes_sto is = sym (cond-false _ _ _ told.of_attr)
own-num values names number head second bytes from to told no_kind' yes_sto is = refl
own-num maps names number head second bytes from to told no_kind' yes_sto is = refl
own-num locs names number head second bytes from to told no_kind' yes_sto is = sym (cond-false _ _ _ no_kind')
own-num nums names number head second bytes from to told no_kind' yes_sto is =
    named_word names.nums number bytes is ∙ sym (cond-true _ _ _ yes_sto)
own-num vars names number head second bytes from to told no_kind' yes_sto is = refl

-- `(attr CARD ATTR)` and the like
pub attr_speaks : {kind : Kind} {P : Tree → Type 0} {ms : List Mention} (names : Names) (number : ℕ) (text : String)
    → tells false true false false text ≡ true → Speaks kind names P ms
    → Speaks kind names (Row (Atom text ▸ P ▸ Named names.attrs number ▸ End)) (ms ++ attr_name number ∷ [])
attr_speaks {kind} {P} {ms} names number text told card = record { says = list_says; other = row_other _ }
  where
    list_says : (tree : Tree) → Row (Atom text ▸ P ▸ Named names.attrs number ▸ End) tree
        → Says kind names (ms ++ attr_name number ∷ []) tree
    list_says (word bytes from to) stands = absurd stands
    list_says (list nil from to) stands = absurd stands
    list_says (list (cons head nil) from to) stands = absurd stands.1
    list_says (list (cons head (cons second nil)) from to) stands = absurd stands.1.1
    list_says (list (cons head (cons second (cons (list parts from' to') rest))) from to) stands = absurd stands.1.1.0
    list_says (list (cons head (cons second (cons (word bytes from' to') (cons next rest)))) from to) stands = absurd stands.1.1.1
    list_says (list (cons head (cons second (cons (word bytes from' to') nil))) from to) stands =
        let rest : Trees = cons second (cons (word bytes from' to') nil) in
        let head' : IsHead false true false false head = head_at text head stands.0 told in
        row_says kind names head rest from to ms (attr_name number ∷ []) head'.of_var
        (behind_silent kind names ms head rest (text_silent kind _ head stands.0)
        (alone kind names ms rest
        (behind_part kind names ms [] second _ (card.says second stands.1.0)
        (behind_word kind names [] bytes from' to' nil (no_part kind names)))))
        (own-attr kind names number head second bytes from' to' head' (card.other second stands.1.0) stands.1.1.0.0)

-- `(max COLL using MAP)` and the like
pub map_speaks : {kind : Kind} {P : Tree → Type 0} {ms : List Mention} (names : Names) (number : ℕ) (text : String)
    → tells true false false false text ≡ true → Speaks kind names P ms
    → Speaks kind names (Row (Atom text ▸ P ▸ Atom "using" ▸ Named names.maps number ▸ End)) (ms ++ map_name number ∷ [])
map_speaks {kind} {P} {ms} names number text told cards = record { says = list_says; other = row_other _ }
  where
    list_says : (tree : Tree) → Row (Atom text ▸ P ▸ Atom "using" ▸ Named names.maps number ▸ End) tree
        → Says kind names (ms ++ map_name number ∷ []) tree
    list_says (word bytes from to) stands = absurd stands
    list_says (list nil from to) stands = absurd stands
    list_says (list (cons head nil) from to) stands = absurd stands.1
    list_says (list (cons head (cons second nil)) from to) stands = absurd stands.1.1
    list_says (list (cons head (cons second (cons using nil))) from to) stands = absurd stands.1.1.1
    list_says (list (cons head (cons second (cons using (cons (list parts from' to') rest)))) from to) stands =
        absurd stands.1.1.1.0
    list_says (list (cons head (cons second (cons using (cons (word bytes from' to') (cons next rest))))) from to) stands =
        absurd stands.1.1.1.1
    list_says (list (cons head (cons second (cons using (cons (word bytes from' to') nil)))) from to) stands =
        let named : Trees = cons (word bytes from' to') nil in
        let rest : Trees = cons second (cons using named) in
        let head' : IsHead true false false false head = head_at text head stands.0 told in
        row_says kind names head rest from to ms (map_name number ∷ []) head'.of_var
        (behind_silent kind names ms head rest (text_silent kind _ head stands.0)
        (alone kind names ms rest
        (behind_part kind names ms [] second _ (cards.says second stands.1.0)
        (behind_silent kind names [] using named (text_silent kind _ using stands.1.1.0)
        (behind_word kind names [] bytes from' to' nil (no_part kind names))))))
        (own-map kind names number head second using bytes from' to' head' stands.1.1.1.0.0)

-- `(is CARD ATTR VALUE)`
pub value_speaks : {kind : Kind} {P : Tree → Type 0} {ms : List Mention} (names : Names) (attr value : ℕ) (text : String)
    → tells false false true false text ≡ true → Speaks kind names P ms
    → Speaks kind names (Row (Atom text ▸ P ▸ Named names.attrs attr ▸ Named names.values value ▸ End))
    (ms ++ attr_name attr ∷ value_name value ∷ [])
value_speaks {kind} {P} {ms} names attr value text told card = record { says = list_says; other = row_other _ }
  where
    list_says : (tree : Tree) → Row (Atom text ▸ P ▸ Named names.attrs attr ▸ Named names.values value ▸ End) tree
        → Says kind names (ms ++ attr_name attr ∷ value_name value ∷ []) tree
    list_says (word bytes from to) stands = absurd stands
    list_says (list nil from to) stands = absurd stands
    list_says (list (cons head nil) from to) stands = absurd stands.1
    list_says (list (cons head (cons second nil)) from to) stands = absurd stands.1.1
    list_says (list (cons head (cons second (cons (list parts from' to') rest))) from to) stands = absurd stands.1.1.0
    list_says (list (cons head (cons second (cons (word a from' to') nil))) from to) stands = absurd stands.1.1.1
    list_says (list (cons head (cons second (cons (word a from' to') (cons (list parts from'' to'') rest)))) from to) stands =
        absurd stands.1.1.1.0
    list_says (list (cons head (cons second (cons (word a from' to') (cons (word v from'' to'') (cons next rest))))) from to)
        stands =
        absurd stands.1.1.1.1
    list_says (list (cons head (cons second (cons (word a from' to') (cons (word v from'' to'') nil)))) from to) stands =
        let last : Trees = cons (word v from'' to'') nil in
        let rest : Trees = cons second (cons (word a from' to') last) in
        let head' : IsHead false false true false head = head_at text head stands.0 told in
        row_says kind names head rest from to ms (attr_name attr ∷ value_name value ∷ []) head'.of_var
        (behind_silent kind names ms head rest (text_silent kind _ head stands.0)
        (alone kind names ms rest
        (behind_part kind names ms [] second _ (card.says second stands.1.0)
        (behind_word kind names [] a from' to' last
        (behind_word kind names [] v from'' to'' nil (no_part kind names))))))
        (own-value kind names attr value head second a v from' to' from'' to'' head' stands.1.1.0.0 stands.1.1.1.0.0)

-- what the word of a kind tells, and the word of the kind that a name's locations have
kind_tells : (kind : LocKind) (from to : ℕ)
    → (is_kind (word (kind_word kind) from to) ≡ true) × (is_text "sto" (word (kind_word kind) from to) ≡ false)
kind_tells vloc from to = (refl, refl)
kind_tells iloc from to = (refl, refl)
kind_tells hloc from to = (refl, refl)
kind_tells mem from to = (refl, refl)

kind_told : (found : Option LocName) (bytes : List ℕ) (from to : ℕ) → option_map (λ loc. kind_word loc.kind) found ≡ Some bytes
    → (is_kind (word bytes from to) ≡ true) × (is_text "sto" (word bytes from to) ≡ false)
kind_told None bytes from to is = absurd (none-some bytes is)
kind_told (Some loc) bytes from to is =
    subst (λ b. (is_kind (word b from to) ≡ true) × (is_text "sto" (word b from to) ≡ false))
    (same_Some (kind_word loc.kind) bytes is) (kind_tells loc.kind from to)

-- `(HOLDER KIND NAME)`
pub loc_list_says : (kind : Kind) (naming : Naming) (scope : Scope) (loc : Loc) (tree : Tree)
    → Row (StandsHolder scope loc.who ▸ KindOf naming loc.name ▸ Named naming.names.locs loc.name ▸ End) tree
    → Says kind naming.names (in_loc loc) tree
loc_list_says kind naming scope loc (word bytes from to) stands = absurd stands
loc_list_says kind naming scope loc (list nil from to) stands = absurd stands
loc_list_says kind naming scope loc (list (cons head nil) from to) stands = absurd stands.1
loc_list_says kind naming scope loc (list (cons head (cons (list parts from' to') rest)) from to) stands = absurd stands.1.0
loc_list_says kind naming scope loc (list (cons head (cons (word k from' to') nil)) from to) stands = absurd stands.1.1
loc_list_says kind naming scope loc (list (cons head (cons (word k from' to') (cons (list parts from'' to'') rest))) from to)
    stands =
    absurd stands.1.1.0
loc_list_says kind naming scope loc
    (list (cons head (cons (word k from' to') (cons (word n from'' to'') (cons next rest)))) from to) stands =
    absurd stands.1.1.1
loc_list_says kind naming scope loc (list (cons head (cons (word k from' to') (cons (word n from'' to'') nil))) from to) stands =
    let last : Trees = cons (word n from'' to'') nil in
    let head' : IsPlain head = holder_plain scope loc.who head stands.0 in
    let told = kind_told (slice_get naming.locs loc.name) k from' to' stands.1.0 in
    let holder : Says kind naming.names [] head = (holder_speaks scope loc.who).says head stands.0 in
    row_says kind naming.names head (cons (word k from' to') last) from to [] (loc_name loc.name ∷ []) head'.of_var
    (behind_part kind naming.names [] [] head _ holder
    (behind_word kind naming.names [] k from' to' last
    (behind_word kind naming.names [] n from'' to'' nil (no_part kind naming.names))))
    (own-loc kind naming.names loc.name head (word k from' to') n from'' to'' head' told.0 told.1 stands.1.1.0.0)

-- a location
pub loc_speaks : {kind : Kind} (naming : Naming) (scope : Scope) (loc : Loc)
    → Speaks kind naming.names (StandsLoc naming scope loc) (in_loc loc)
loc_speaks {kind} naming scope loc =
    record {
      says = λ tree stands. loc_list_says kind naming scope loc tree stands.0;
      other = λ tree stands. row_other _ tree stands.0;
    }

-- `(HOLDER sto NAME)`
num_list_says : (kind : Kind) (naming : Naming) (scope : Scope) (num : Num) (tree : Tree)
    → Row (StandsHolder scope num.who ▸ Atom "sto" ▸ Named naming.names.nums num.name ▸ End) tree
    → Says kind naming.names (in_num num) tree
num_list_says kind naming scope num (word bytes from to) stands = absurd stands
num_list_says kind naming scope num (list nil from to) stands = absurd stands
num_list_says kind naming scope num (list (cons head nil) from to) stands = absurd stands.1
num_list_says kind naming scope num (list (cons head (cons (list parts from' to') rest)) from to) stands = absurd stands.1.0
num_list_says kind naming scope num (list (cons head (cons (word k from' to') nil)) from to) stands = absurd stands.1.1
num_list_says kind naming scope num (list (cons head (cons (word k from' to') (cons (list parts from'' to'') rest))) from to)
    stands =
    absurd stands.1.1.0
num_list_says kind naming scope num
    (list (cons head (cons (word k from' to') (cons (word n from'' to'') (cons next rest)))) from to) stands =
    absurd stands.1.1.1
num_list_says kind naming scope num (list (cons head (cons (word k from' to') (cons (word n from'' to'') nil))) from to) stands =
    let last : Trees = cons (word n from'' to'') nil in
    let head' : IsPlain head = holder_plain scope num.who head stands.0 in
    let holder : Says kind naming.names [] head = (holder_speaks scope num.who).says head stands.0 in
    row_says kind naming.names head (cons (word k from' to') last) from to [] (num_name num.name ∷ []) head'.of_var
    (behind_part kind naming.names [] [] head _ holder
    (behind_word kind naming.names [] k from' to' last
    (behind_word kind naming.names [] n from'' to'' nil (no_part kind naming.names))))
    (own-num kind naming.names num.name head (word k from' to') n from'' to'' head'
    (subst (λ b. is_kind (word b from' to') ≡ false) (sym stands.1.0) refl)
    (subst (λ b. is_text "sto" (word b from' to') ≡ true) (sym stands.1.0) refl)
    stands.1.1.0.0)

-- a stored number
pub num_speaks : {kind : Kind} (naming : Naming) (scope : Scope) (num : Num)
    → Speaks kind naming.names (StandsNum naming scope num) (in_num num)
num_speaks {kind} naming scope num =
    record {
      says = λ tree stands. num_list_says kind naming scope num tree stands.0;
      other = λ tree stands. row_other _ tree stands.0;
    }

-- what a binder says but of variables: what its domain says, and what stands behind it
unbound_says : (kind : Kind) (naming : Naming) (bound : ℕ) (ds rs : List Mention) (head domain : Tree) (bytes : List ℕ)
    (from' to' : ℕ) (rest : Trees) (from to : ℕ) → IsHead false false false true head → is_sort_word domain ≡ false
    → words_in kind head ≡ [] → Says kind naming.names ds domain → SayAll kind naming.names rs rest
    → said kind naming.names (var_name bound ∷ rs) ≡ said kind naming.names rs
    → words_in kind (list (cons head (cons domain (cons (word bytes from' to') rest))) from to)
    ≡ all_words_in kind (cons head (cons domain (cons (word bytes from' to') rest)))
    ++ own kind (cons head (cons domain (cons (word bytes from' to') rest)))
    → Says kind naming.names (ds ++ var_name bound ∷ rs)
    (list (cons head (cons domain (cons (word bytes from' to') rest))) from to)
unbound_says kind naming bound ds rs head domain bytes from' to' rest from to told other silent first later passed opened =
    let names = naming.names in
    let behind : Trees = cons (word bytes from' to') rest in
    let parts : SayAll kind names (ds ++ rs) (cons head (cons domain behind)) =
    behind_silent kind names (ds ++ rs) head (cons domain behind) silent
    (behind_part kind names ds rs domain behind first (behind_word kind names rs bytes from' to' rest later)) in
    let whole = all_words_in kind (cons head (cons domain behind)) in
    record {
      same =
          said-append kind names ds (var_name bound ∷ rs)
          ∙ ap (λ words. said kind names ds ++ words) passed
          ∙ sym (said-append kind names ds rs)
          ∙ parts.same
          ∙ sym (append-nil whole)
          ∙ ap (λ words. whole ++ words) (sym (own-plain kind true head domain behind told other))
          ∙ sym opened;
    }

-- and of variables
bound_says : (naming : Naming) (bound : ℕ) (ds rs : List Mention) (head domain : Tree) (bytes : List ℕ)
    (from' to' : ℕ) (rest : Trees) (from to : ℕ) → is_binder head ≡ true → words_in vars head ≡ []
    → Says vars naming.names ds domain → SayAll vars naming.names rs rest → slice_get naming.names.vars bound ≡ Some bytes
    → Says vars naming.names (ds ++ var_name bound ∷ rs)
    (list (cons head (cons domain (cons (word bytes from' to') rest))) from to)
bound_says naming bound ds rs head domain bytes from' to' rest from to told silent first later is =
    let names = naming.names in
    let var : Tree = word bytes from' to' in
    let standing : List (List ℕ) = if is_binder head then word_of var else var_words var in
    let stands : standing ≡ bytes ∷ [] = cond-true _ _ _ told in
    record {
      same =
          said-append vars names ds (var_name bound ∷ rs)
          ∙ ap₂ ◌++◌ (first.same) (ap₂ ◌++◌ (named_word names.vars bound bytes is) (later.same))
          ∙ sym (append_assoc (var_words domain) (bytes ∷ []) (all_var_words rest))
          ∙ ap (λ words. words ++ var_words domain ++ (bytes ∷ []) ++ all_var_words rest) (sym silent)
          ∙ ap (λ words. var_words head ++ var_words domain ++ words ++ all_var_words rest) (sym stands);
    }

-- by the kind
binding_says : (kind : Kind) (naming : Naming) (bound : ℕ) (ds rs : List Mention) (head domain : Tree) (bytes : List ℕ)
    (from' to' : ℕ) (rest : Trees) (from to : ℕ) → IsHead false false false true head → is_sort_word domain ≡ false
    → words_in kind head ≡ [] → Says kind naming.names ds domain → SayAll kind naming.names rs rest
    → slice_get naming.names.vars bound ≡ Some bytes
    → Says kind naming.names (ds ++ var_name bound ∷ rs)
    (list (cons head (cons domain (cons (word bytes from' to') rest))) from to)
binding_says attrs naming bound ds rs head domain bytes from' to' rest from to told other silent first later is =
    unbound_says attrs naming bound ds rs head domain bytes from' to' rest from to told other silent first later refl refl
binding_says values naming bound ds rs head domain bytes from' to' rest from to told other silent first later is =
    unbound_says values naming bound ds rs head domain bytes from' to' rest from to told other silent first later refl refl
binding_says maps naming bound ds rs head domain bytes from' to' rest from to told other silent first later is =
    unbound_says maps naming bound ds rs head domain bytes from' to' rest from to told other silent first later refl refl
binding_says locs naming bound ds rs head domain bytes from' to' rest from to told other silent first later is =
    unbound_says locs naming bound ds rs head domain bytes from' to' rest from to told other silent first later refl refl
binding_says nums naming bound ds rs head domain bytes from' to' rest from to told other silent first later is =
    unbound_says nums naming bound ds rs head domain bytes from' to' rest from to told other silent first later refl refl
binding_says vars naming bound ds rs head domain bytes from' to' rest from to told other silent first later is =
    bound_says naming bound ds rs head domain bytes from' to' rest from to told.of_var silent first later is

-- `(filter COLL 'V ..)` and the like
pub binder_speaks : {kind : Kind} {D : Tree → Type 0} {R : Trees → Type 0} {ds rs : List Mention} (naming : Naming) (bound : ℕ)
    (text : String) → tells false false false true text ≡ true → Speaks kind naming.names D ds
    → Speak kind naming.names R rs
    → Speaks kind naming.names (Row (Atom text ▸ D ▸ Binder naming bound ▸ R)) (ds ++ var_name bound ∷ rs)
binder_speaks {kind} {D} {R} {ds} {rs} naming bound text told domain behind = record { says = list_says; other = row_other _ }
  where
    list_says : (tree : Tree) → Row (Atom text ▸ D ▸ Binder naming bound ▸ R) tree
        → Says kind naming.names (ds ++ var_name bound ∷ rs) tree
    list_says (word bytes from to) stands = absurd stands
    list_says (list nil from to) stands = absurd stands
    list_says (list (cons head nil) from to) stands = absurd stands.1
    list_says (list (cons head (cons second nil)) from to) stands = absurd stands.1.1
    list_says (list (cons head (cons second (cons (list parts from' to') rest))) from to) stands = absurd stands.1.1.0
    list_says (list (cons head (cons second (cons (word bytes from' to') rest))) from to) stands =
        binding_says kind naming bound ds rs head second bytes from' to' rest from to (head_at text head stands.0 told)
        (domain.other second stands.1.0) (text_silent kind _ head stands.0) (domain.says second stands.1.0)
        (behind.says rest stands.1.1.1) stands.1.1.0.0
