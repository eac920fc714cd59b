-- The locations and the stored numbers that the parts behind a setup give are those that its lists mention.
use Rattle.std.proofs.Common.{◌≡◌, ℕ, ◌==◌, Bool, true, false, not, ◌||◌, List, [], ◌∷◌, ◌++◌, Option, Some, None, option_map, refl, sym, subst, ap, ap₂, ◌∙◌}
use Rattle.std.specs.Prelude.{codes}
use Rattle.std.specs.List.{list_all, AllByRecursion}
use Rattle.std.proofs.lemmas.Bool.{cond-true, cond-false, or_from}
use Rattle.std.proofs.lemmas.List.{append-nil}
use Rattle.rc_base.specs.Tree.{Tree, word, list, Trees, nil, cons}
use Rattle.rc_sheet_spec.specs.FormMentions.{is_kind, gathered, all_gathered, is_text}
use Rattle.rc_check.specs.Keyword.{text_of}
use Rattle.rc_check.specs.Faults.{faults_at, faults_in, place_at, count, fits}
use Rattle.rc_check.specs.Faults.{is_kind as is_kind_word}
use Rattle.rc_check.specs.declared.fault.SheetKind.TheVariants.{Shape}
use Rattle.rc_check.specs.declared.keyword.Keyword.{Keyword}
use Rattle.rc_check.specs.declared.keyword.Keyword.TheVariants as keyword
use Rattle.rc_check.specs.declared.grammar.Symbol.{Symbol}
use Rattle.rc_check.specs.declared.grammar.Symbol.TheVariants as symbol
use Rattle.rc_check.specs.declared.grammar.Rule.{Rule}
use Rattle.rc_check.specs.declared.grammar.Rule.TheVariants as rule
use Rattle.rc_check.specs.SecondParts.{Standing, Part, atom, form, standing_in}
use Rattle.rc_check.specs.SecondNames.{mention_of, locations_in, numbers_of, OwnedMention}
use Rattle.rc_resolve.specs.Mentions.{mention_by, loc_mention, num_mention}
use Rattle.rc_sheet.proofs.Shapes.{none_in_both, shape_of, rule_holds, two_only, three_only, refuses, refuted, atom_only, fixed_only, taken}
use Rattle.rc_sheet.proofs.Bodies.{is_body_rule, body_rule, standing_at, all_refused}
use Rattle.rc_sheet.proofs.Gathered.{by_atom, AllTell, quiet_row}

-- where atoms give nothing
pub silent_atoms : {X : Type 0} (own : Trees → List X) (given : Part → List X)
    → ((at : Standing) (bytes : List ℕ) (from : ℕ) → given (atom at bytes from) ≡ [])
    → (at : Standing) (r : Rule) (all : Trees) (index : ℕ) (tree : Tree)
    → by_atom own given (standing_in at r all index) tree ≡ []
silent_atoms {X} own given none at r all index tree = by_place (place_at r (count all) index) tree
  where
    by_place : (o : Option Symbol) (tree : Tree) → by_atom own given (option_map (λ q. standing_at at r all index q) o) tree ≡ []
    by_place None tree = refl
    by_place (Some q) (word bytes from to) = none (standing_at at r all index q) bytes from
    by_place (Some q) (list parts from to) = refl

-- An owner mentions nothing, where two parts of a list don't and `(team of PLAYER)` doesn't.
module _
    {X : Type 0}
    (own : Trees → List X)
    (two : (a b : Tree) → own (cons a (cons b nil)) ≡ [])
    (of_player : (from to from' to' : ℕ) (player : Tree)
    → own (cons (word (text_of keyword.Team) from to) (cons (word (text_of keyword.Of) from' to') (cons player nil))) ≡ [])
  where
    two_fixed : (r : Rule) (first second : Keyword) (parts : Trees) → (fits (count parts) r ≡ true → (count parts == 2) ≡ true)
        → place_at r 2 0 ≡ Some (symbol.Word first) → place_at r 2 1 ≡ Some (symbol.Word second) → fits (count parts) r ≡ true
        → faults_in r (count parts) 0 parts ≡ [] → all_gathered own parts ++ own parts ≡ []
    two_fixed r first second parts counted first_is second_is fit none =
        two_only (λ parts. faults_in r (count parts) 0 parts ≡ [] → all_gathered own parts ++ own parts ≡ []) parts (counted fit)
        (λ a b none.
        let apart = none_in_both (faults_at (place_at r 2 0) a) _ none in
        let later = none_in_both (faults_at (place_at r 2 1) b) [] apart.1 in
        fixed_only first (λ a. all_gathered own (cons a (cons b nil)) ++ own (cons a (cons b nil)) ≡ []) a
        (subst (λ o. faults_at o a ≡ []) first_is apart.0)
        (λ from to.
        fixed_only second
        (λ b. all_gathered own (cons (word (text_of first) from to) (cons b nil))
        ++ own (cons (word (text_of first) from to) (cons b nil)) ≡ []) b
        (subst (λ o. faults_at o b ≡ []) second_is later.0) (λ from' to'. two _ _)))
        none

    player_silent : (tree : Tree) → faults_at (Some symbol.Player) tree ≡ [] → gathered own tree ≡ []
    player_silent (word bytes from to) none = refl
    player_silent (list parts from to) none =
        let shape = shape_of symbol.Player parts from to none in
        rule_holds
        (λ r. fits (count parts) r ≡ true → faults_in r (count parts) 0 parts ≡ [] → all_gathered own parts ++ own parts ≡ [])
        symbol.Player parts shape.form shape.told
        (two_fixed rule.CurrentPlayer keyword.Current keyword.Player parts (λ fit. fit) refl refl, tt)
        shape.fit shape.inner

    team_silent : (parts : Trees) → fits (count parts) rule.TeamOf ≡ true → faults_in rule.TeamOf (count parts) 0 parts ≡ []
        → all_gathered own parts ++ own parts ≡ []
    team_silent parts fit none =
        three_only
        (λ parts. faults_in rule.TeamOf (count parts) 0 parts ≡ [] → all_gathered own parts ++ own parts ≡ []) parts fit
        (λ a b c none.
        let apart = none_in_both (faults_at (place_at rule.TeamOf 3 0) a) _ none in
        let later = none_in_both (faults_at (place_at rule.TeamOf 3 1) b) _ apart.1 in
        let last = none_in_both (faults_at (place_at rule.TeamOf 3 2) c) [] later.1 in
        fixed_only keyword.Team
        (λ a. all_gathered own (cons a (cons b (cons c nil))) ++ own (cons a (cons b (cons c nil))) ≡ []) a apart.0
        (λ from to.
        let head = word (text_of keyword.Team) from to in
        fixed_only keyword.Of
        (λ b. all_gathered own (cons head (cons b (cons c nil))) ++ own (cons head (cons b (cons c nil))) ≡ []) b later.0
        (λ from' to'.
        ap₂ (λ l m. (l ++ []) ++ m) (player_silent c last.0) (of_player from to from' to' c))))
        none

    holder_silent : (tree : Tree) → faults_at (Some symbol.Holder) tree ≡ [] → gathered own tree ≡ []
    holder_silent (word bytes from to) none = refl
    holder_silent (list parts from to) none =
        let shape = shape_of symbol.Holder parts from to none in
        rule_holds
        (λ r. fits (count parts) r ≡ true → faults_in r (count parts) 0 parts ≡ [] → all_gathered own parts ++ own parts ≡ [])
        symbol.Holder parts shape.form shape.told (
          two_fixed rule.CurrentPlayer keyword.Current keyword.Player parts (λ fit. fit) refl refl,
          (two_fixed rule.CurrentTeam keyword.Current keyword.Team parts (λ fit. fit) refl refl, (team_silent parts, tt)),
        )
        shape.fit shape.inner

    -- the mention alone, where its list has a holder before the words of its kind and its name
    alone : (h : Tree) (kind name : List ℕ) (from to from' to' : ℕ) (x : X) → faults_at (Some symbol.Holder) h ≡ []
        → own (cons h (cons (word kind from to) (cons (word name from' to') nil))) ≡ x ∷ []
        → x ∷ all_gathered own (cons h (cons (word kind from to) (cons (word name from' to') nil)))
        ≡ all_gathered own (cons h (cons (word kind from to) (cons (word name from' to') nil)))
        ++ own (cons h (cons (word kind from to) (cons (word name from' to') nil)))
    alone h kind name from to from' to' x none is =
        ap (λ l. x ∷ (l ++ [])) (holder_silent h none)
        ∙ sym (ap₂ (λ l m. (l ++ []) ++ m) (holder_silent h none) is)

-- behind a setup, only this form may have one of these words second, of three parts
abbrev seconds_alone : (Rule → Bool) → List (List ℕ) → Rule → Bool
seconds_alone takes words r = takes r || (not (is_body_rule r) || list_all (refuses (place_at r 3 1)) words)

others_refuse : (takes : Rule → Bool) (words : List (List ℕ)) (r : Rule) → seconds_alone takes words r ≡ true
    → is_body_rule r ≡ true → takes r ≡ false → AllByRecursion (λ bytes. refuses (place_at r 3 1) bytes ≡ true) words
others_refuse takes words r alone body quiet =
    all_refused (takes r) r (place_at r 3 1) words alone body quiet

abbrev is_location : Rule → Bool
is_location rule.Location = true
is_location r = false

abbrev is_counter : Rule → Bool
is_counter rule.Counter = true
is_counter r = false

abbrev kind_words : List (List ℕ)
kind_words = codes "vloc" ∷ codes "iloc" ∷ codes "hloc" ∷ codes "mem" ∷ []

abbrev sto_words : List (List ℕ)
sto_words = codes "sto" ∷ []

kinds_second : (r : Rule) → seconds_alone is_location kind_words r ≡ true
kinds_second rule.Game = refl
kinds_second r = refl

sto_second : (r : Rule) → seconds_alone is_counter sto_words r ≡ true
sto_second rule.Game = refl
sto_second r = refl

loc_silent : (r : Rule) (parts : Trees) → is_body_rule r ≡ true → is_location r ≡ false
    → faults_in r (count parts) 0 parts ≡ [] → loc_mention parts ≡ []
loc_silent r nil body quiet none = refl
loc_silent r (cons h nil) body quiet none = refl
loc_silent r (cons h (cons k nil)) body quiet none = refl
loc_silent r (cons h (cons k (cons n nil))) body quiet none =
    let apart = none_in_both (faults_at (place_at r 3 0) h) _ none in
    let second = (none_in_both (faults_at (place_at r 3 1) k) _ apart.1).0 in
    let refused = others_refuse is_location kind_words r (kinds_second r) body quiet in
    cond-false (is_kind k) (mention_by h k n) []
    (or_from _ _
    (or_from _ _
    (or_from _ _ (refuted (place_at r 3 1) "vloc" k second refused.0) (refuted (place_at r 3 1) "iloc" k second refused.1.0))
    (refuted (place_at r 3 1) "hloc" k second refused.1.1.0))
    (refuted (place_at r 3 1) "mem" k second refused.1.1.1.0))
loc_silent r (cons h (cons k (cons n (cons m parts)))) body quiet none = refl

num_silent : (r : Rule) (parts : Trees) → is_body_rule r ≡ true → is_counter r ≡ false
    → faults_in r (count parts) 0 parts ≡ [] → num_mention parts ≡ []
num_silent r nil body quiet none = refl
num_silent r (cons h nil) body quiet none = refl
num_silent r (cons h (cons k nil)) body quiet none = refl
num_silent r (cons h (cons k (cons n nil))) body quiet none =
    let apart = none_in_both (faults_at (place_at r 3 0) h) _ none in
    let second = (none_in_both (faults_at (place_at r 3 1) k) _ apart.1).0 in
    let refused = others_refuse is_counter sto_words r (sto_second r) body quiet in
    cond-false (is_text "sto" k) (mention_by h k n) [] (refuted (place_at r 3 1) "sto" k second refused.0)
num_silent r (cons h (cons k (cons n (cons m parts)))) body quiet none = refl

-- a form that is none of a location, or of a stored number, gives none
no_location : (at : Standing) (r : Rule) (parts : Trees) (from : ℕ) → is_location r ≡ false
    → locations_in (form at r parts from) ≡ []
no_location at rule.Location parts from quiet = absurd cc
no_location at r parts from quiet = refl

no_number : (at : Standing) (r : Rule) (parts : Trees) (from : ℕ) → is_counter r ≡ false → numbers_of (form at r parts from) ≡ []
no_number at rule.Counter parts from quiet = absurd cc
no_number at r parts from quiet = refl

-- what a form gives before its parts is what its list mentions behind them
abbrev Moves : (Trees → List OwnedMention) → (Part → List OwnedMention) → Rule → Trees → Type 0
Moves own given r parts =
    (at : Standing) (from : ℕ) → given (form at r parts from) ++ all_gathered own parts ≡ all_gathered own parts ++ own parts

loc_moves : (parts : Trees) → fits (count parts) rule.Location ≡ true → faults_in rule.Location (count parts) 0 parts ≡ []
    → Moves loc_mention locations_in rule.Location parts
loc_moves parts fit none =
    three_only
    (λ parts. faults_in rule.Location (count parts) 0 parts ≡ [] → Moves loc_mention locations_in rule.Location parts) parts fit
    (λ h k n none.
    let apart = none_in_both (faults_at (place_at rule.Location 3 0) h) _ none in
    let later = none_in_both (faults_at (place_at rule.Location 3 1) k) _ apart.1 in
    let last = none_in_both (faults_at (place_at rule.Location 3 2) n) [] later.1 in
    atom_only symbol.Kind (λ k. Moves loc_mention locations_in rule.Location (cons h (cons k (cons n nil)))) k refl later.0
    (λ kind from to is.
    atom_only symbol.Name
    (λ n. Moves loc_mention locations_in rule.Location (cons h (cons (word kind from to) (cons n nil)))) n refl last.0
    (λ name from' to' is' at start.
    alone loc_mention (λ a b. refl) (λ from to from' to' player. refl) h kind name from to from' to'
    (mention_of (cons h (cons (word kind from to) (cons (word name from' to') nil)))) apart.0
    (cond-true (is_kind (word kind from to)) _ [] (taken (is_kind_word kind) Shape is)))))
    none

num_moves : (parts : Trees) → fits (count parts) rule.Counter ≡ true → faults_in rule.Counter (count parts) 0 parts ≡ []
    → Moves num_mention numbers_of rule.Counter parts
num_moves parts fit none =
    three_only
    (λ parts. faults_in rule.Counter (count parts) 0 parts ≡ [] → Moves num_mention numbers_of rule.Counter parts) parts fit
    (λ h k n none.
    let apart = none_in_both (faults_at (place_at rule.Counter 3 0) h) _ none in
    let later = none_in_both (faults_at (place_at rule.Counter 3 1) k) _ apart.1 in
    let last = none_in_both (faults_at (place_at rule.Counter 3 2) n) [] later.1 in
    fixed_only keyword.Sto (λ k. Moves num_mention numbers_of rule.Counter (cons h (cons k (cons n nil)))) k later.0
    (λ from to.
    atom_only symbol.Name
    (λ n. Moves num_mention numbers_of rule.Counter (cons h (cons (word (text_of keyword.Sto) from to) (cons n nil))))
    n refl last.0
    (λ name from' to' is at start.
    alone num_mention (λ a b. refl) (λ from to from' to' player. refl) h (text_of keyword.Sto) name from to from' to'
    (mention_of (cons h (cons (word (text_of keyword.Sto) from to) (cons (word name from' to') nil)))) apart.0 refl)))
    none

-- the same of each form, where the forms that take one have told so, and others give and mention nothing
moves_by : (own : Trees → List OwnedMention) (given : Part → List OwnedMention) (r : Rule) (parts : Trees)
    → ((at : Standing) (from : ℕ) → given (form at r parts from) ≡ []) → own parts ≡ [] → Moves own given r parts
moves_by own given r parts none silent at from =
    ap (λ l. l ++ all_gathered own parts) (none at from)
    ∙ sym (append-nil (all_gathered own parts))
    ∙ ap (λ l. all_gathered own parts ++ l) (sym silent)

loc_moves_all : (r : Rule) (parts : Trees) → is_body_rule r ≡ true → fits (count parts) r ≡ true
    → faults_in r (count parts) 0 parts ≡ [] → (b : Bool) → is_location r ≡ b → Moves loc_mention locations_in r parts
loc_moves_all rule.Location parts body fit none true is = loc_moves parts fit none
loc_moves_all r parts body fit none true is = absurd cc
loc_moves_all r parts body fit none false is =
    moves_by loc_mention locations_in r parts (λ at from. no_location at r parts from is) (loc_silent r parts body is none)

num_moves_all : (r : Rule) (parts : Trees) → is_body_rule r ≡ true → fits (count parts) r ≡ true
    → faults_in r (count parts) 0 parts ≡ [] → (b : Bool) → is_counter r ≡ b → Moves num_mention numbers_of r parts
num_moves_all rule.Counter parts body fit none true is = num_moves parts fit none
num_moves_all r parts body fit none true is = absurd cc
num_moves_all r parts body fit none false is =
    moves_by num_mention numbers_of r parts (λ at from. no_number at r parts from is) (num_silent r parts body is none)

-- locations and stored numbers that are given are those that lists mention
pub locations_tell : AllTell loc_mention locations_in
locations_tell at parts shape body from =
    ap (λ l. locations_in (form at shape.form parts from) ++ l)
    (quiet_row loc_mention locations_in at shape.form parts 0 parts
    (λ j tree. silent_atoms loc_mention locations_in (λ at bytes from. refl) at shape.form parts j tree))
    ∙ loc_moves_all shape.form parts (body_rule at.place parts shape.form body.placed shape.told) shape.fit shape.inner
    (is_location shape.form) refl at from

pub numbers_tell : AllTell num_mention numbers_of
numbers_tell at parts shape body from =
    ap (λ l. numbers_of (form at shape.form parts from) ++ l)
    (quiet_row num_mention numbers_of at shape.form parts 0 parts
    (λ j tree. silent_atoms num_mention numbers_of (λ at bytes from. refl) at shape.form parts j tree))
    ∙ num_moves_all shape.form parts (body_rule at.place parts shape.form body.placed shape.told) shape.fit shape.inner
    (is_counter shape.form) refl at from
