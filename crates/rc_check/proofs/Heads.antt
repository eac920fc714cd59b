-- What a list begins with tells which of the forms of a place it may have.
use Rattle.std.proofs.Common.{◌≡◌, ℕ, Bool, true, false, ◌&&◌, ◌||◌, if◌then◌else◌, List, [], ◌∷◌, Option, Some, None, is_none, refl, sym, ap, ap₂, ◌∙◌}
use Rattle.std.specs.List.{find}
use Rattle.std.proofs.lemmas.Slice.Eq.{bytes_eq-Decides}
use Rattle.std.proofs.lemmas.Bool.{and_right}
use Rattle.rc_base.specs.Tree.{Tree, word, list, Trees, nil, cons}
use Rattle.rc_base.specs.Words.{is_variable}
use Rattle.rc_check.specs.Keyword.{text_of}
use Rattle.rc_check.specs.Grammar.{forms_of, front_of}
use Rattle.rc_check.specs.Faults.{is_word, is_form_word, may_begin, fits_head, begins, unless, is_told, second_word, told_rule, plain_rule}
use Rattle.rc_check.specs.Spelling.{keyword_of}
use Rattle.rc_check.specs.Head.{tree_by, wants_second, begin_with_word}
use Rattle.rc_check.proofs.Spelled.{is_spelled, none_is_spelled}
use Rattle.rc_check.specs.declared.fault.SheetKind.TheVariants.{Shape}
use Rattle.rc_check.specs.declared.head.Head.{Head}
use Rattle.rc_check.specs.declared.head.Head.TheVariants.{Word, Variable, Name}
use Rattle.rc_check.specs.declared.keyword.Keyword.{Keyword}
use Rattle.rc_check.specs.declared.keyword.Keyword.TheVariants as keyword
use Rattle.rc_check.specs.declared.grammar.Symbol.{Symbol}
use Rattle.rc_check.specs.declared.grammar.Symbol.TheVariants as symbol
use Rattle.rc_check.specs.declared.grammar.Rule.{Rule}
use Rattle.rc_check.specs.declared.grammar.Rule.TheVariants as rule

-- two parts that are the same words and the same holders begin the same forms
pub same_begins : (a b : Tree) → ((k : Keyword) → is_form_word k a ≡ is_form_word k b)
    → may_begin symbol.Holder a ≡ may_begin symbol.Holder b
    → (places : List Symbol) → fits_head places a ≡ fits_head places b
same_begins a b words holder [] = refl
same_begins a b words holder (symbol.Word k ∷ places) = words k
same_begins a b words holder (symbol.Holder ∷ places) = holder
same_begins a b words holder (place ∷ places) = refl

-- whether an atom is a holder
abbrev holds : Bool → Bool → Bool
holds game variable = is_none (unless (game || variable) Shape)

-- no keyword is a variable or has no bytes
no_variable : (k : Keyword) → is_variable (text_of k) ≡ false
no_variable keyword.Game = refl
no_variable k = refl

not_empty : (k : Keyword) → is_word k [] ≡ false
not_empty keyword.Game = refl
not_empty k = refl

not_quote : (k : Keyword) → is_word k (39 ∷ []) ≡ false
not_quote keyword.Game = refl
not_quote k = refl

variable_by : (bytes : List ℕ) (k : Keyword) (is : Bool) → is_word k bytes ≡ is → is_variable bytes ≡ true → is_word k bytes ≡ false
variable_by bytes k true is variable =
    let same = (bytes_eq-Decides bytes (text_of k)).0 is in
    let both = sym variable ∙ ap is_variable same ∙ no_variable k in
    absurd cc
variable_by bytes k false is variable = is

variable_is_no_word : (bytes : List ℕ) (k : Keyword) → is_variable bytes ≡ true → is_word k bytes ≡ false
variable_is_no_word bytes k variable = variable_by bytes k (is_word k bytes) refl variable

-- a list, a variable, a keyword and another atom begin what they are to
pub list_begins : (parts : Trees) (from to : ℕ) (r : Rule) → begins (list parts from to) r ≡ begins (list nil 0 0) r
list_begins parts from to r = same_begins (list parts from to) (list nil 0 0) (λ k. refl) refl (front_of r)

pub variable_begins : (bytes : List ℕ) (from to : ℕ) → is_variable bytes ≡ true
    → (r : Rule) → begins (word bytes from to) r ≡ begins (tree_by Variable) r
variable_begins bytes from to variable r =
    same_begins (word bytes from to) (word (39 ∷ []) 0 0)
    (λ k. variable_is_no_word bytes k variable ∙ sym (not_quote k))
    (ap₂ holds (variable_is_no_word bytes keyword.Game variable) variable) (front_of r)

pub keyword_begins : (bytes : List ℕ) (from to : ℕ) (k : Keyword) → keyword_of bytes ≡ Some k
    → (r : Rule) → begins (word bytes from to) r ≡ begins (tree_by (Word k)) r
keyword_begins bytes from to k found r =
    let same = is_spelled bytes k found in
    same_begins (word bytes from to) (word (text_of k) 0 0) (λ k. ap (is_word k) same)
    (ap (λ bytes. holds (is_word keyword.Game bytes) (is_variable bytes)) same) (front_of r)

pub name_begins : (bytes : List ℕ) (from to : ℕ) → is_variable bytes ≡ false → keyword_of bytes ≡ None
    → (r : Rule) → begins (word bytes from to) r ≡ begins (tree_by Name) r
name_begins bytes from to variable none r =
    same_begins (word bytes from to) (word [] 0 0)
    (λ k. none_is_spelled bytes k none ∙ sym (not_empty k))
    (ap₂ holds (none_is_spelled bytes keyword.Game none) variable) (front_of r)

-- the same test finds the same form
find_same : (p q : Rule → Bool) → ((r : Rule) → p r ≡ q r) → (rules : List Rule) → find p rules ≡ find q rules
find_same p q same [] = refl
find_same p q same (r ∷ rules) = ap₂ (λ passes rest. if passes then Some r else rest) (same r) (find_same p q same rules)

pub plain_same : (place : Symbol) (a b : Tree) → ((r : Rule) → begins a r ≡ begins b r) → plain_rule place a ≡ plain_rule place b
plain_same place a b same =
    find_same (λ r. begins a r && is_none (second_word r)) (λ r. begins b r && is_none (second_word r))
    (λ r. ap (λ begun. begun && is_none (second_word r)) (same r)) (forms_of place)

-- at these places a second word tells every form
passed : (b : Bool) (r : Rule) (rest : Option Rule) → rest ≡ (if b && false then Some r else rest)
passed true r rest = refl
passed false r rest = refl

pub no_line : (tree : Tree) → None ≡ plain_rule symbol.Line tree
no_line tree =
    passed (begins tree rule.PutPoints) rule.PutPoints None ∙ passed (begins tree rule.CreateDeck) rule.CreateDeck _
    ∙ passed (begins tree rule.CreateTeams) rule.CreateTeams _ ∙ passed (begins tree rule.CreatePlayers) rule.CreatePlayers _

no_owned : (tree : Tree)
    → None ≡ find (λ r. begins tree r && is_none (second_word r)) (rule.CurrentPlayer ∷ rule.CurrentTeam ∷ rule.TeamOf ∷ [])
no_owned tree =
    passed (begins tree rule.TeamOf) rule.TeamOf None ∙ passed (begins tree rule.CurrentTeam) rule.CurrentTeam _
    ∙ passed (begins tree rule.CurrentPlayer) rule.CurrentPlayer _

pub no_holder : (tree : Tree) → None ≡ plain_rule symbol.Holder tree
no_holder tree = no_owned tree

pub no_owner : (tree : Tree) → None ≡ plain_rule symbol.Owner tree
no_owner tree = no_owned tree

pub no_player : (tree : Tree) → None ≡ plain_rule symbol.Player tree
no_player tree = passed (begins tree rule.CurrentPlayer) rule.CurrentPlayer None

-- where no second word is wanted, the head is none of those that want one
not_create : (head : Head) → wants_second head ≡ false → is_form_word keyword.Create (tree_by head) ≡ false
not_create (Word keyword.Create) not_wanted = absurd cc
not_create (Word k) not_wanted = refl
not_create head not_wanted = refl

not_put : (head : Head) → wants_second head ≡ false → is_form_word keyword.Put (tree_by head) ≡ false
not_put (Word keyword.Put) not_wanted = absurd cc
not_put (Word k) not_wanted = refl
not_put head not_wanted = refl

not_stage : (head : Head) → wants_second head ≡ false → is_form_word keyword.Stage (tree_by head) ≡ false
not_stage (Word keyword.Stage) not_wanted = absurd cc
not_stage (Word k) not_wanted = refl
not_stage head not_wanted = refl

not_move : (head : Head) → wants_second head ≡ false → is_form_word keyword.Move (tree_by head) ≡ false
not_move (Word keyword.Move) not_wanted = absurd cc
not_move (Word k) not_wanted = refl
not_move head not_wanted = refl

not_cycle : (head : Head) → wants_second head ≡ false → is_form_word keyword.Cycle (tree_by head) ≡ false
not_cycle (Word keyword.Cycle) not_wanted = absurd cc
not_cycle (Word k) not_wanted = refl
not_cycle head not_wanted = refl

not_current : (head : Head) → wants_second head ≡ false → is_form_word keyword.Current (tree_by head) ≡ false
not_current (Word keyword.Current) not_wanted = absurd cc
not_current (Word k) not_wanted = refl
not_current head not_wanted = refl

not_team : (head : Head) → wants_second head ≡ false → is_form_word keyword.Team (tree_by head) ≡ false
not_team (Word keyword.Team) not_wanted = absurd cc
not_team (Word k) not_wanted = refl
not_team head not_wanted = refl

not_told : (head : Head) (others : Trees) → wants_second head ≡ false
    → (r : Rule) → (begins (tree_by head) r && is_told (second_word r) others) ≡ false
not_told head others not_wanted rule.CreatePlayers = ap (λ begun. begun && is_told (Some keyword.Players) others) (not_create head not_wanted)
not_told head others not_wanted rule.CreateTeams = ap (λ begun. begun && is_told (Some keyword.Teams) others) (not_create head not_wanted)
not_told head others not_wanted rule.CreateDeck = ap (λ begun. begun && is_told (Some keyword.Deck) others) (not_create head not_wanted)
not_told head others not_wanted rule.PutPoints = ap (λ begun. begun && is_told (Some keyword.Points) others) (not_put head not_wanted)
not_told head others not_wanted rule.PlayerStage = ap (λ begun. begun && is_told (Some keyword.Player) others) (not_stage head not_wanted)
not_told head others not_wanted rule.TeamStage = ap (λ begun. begun && is_told (Some keyword.Team) others) (not_stage head not_wanted)
not_told head others not_wanted rule.MoveAll = ap (λ begun. begun && is_told (Some keyword.All) others) (not_move head not_wanted)
not_told head others not_wanted rule.Next = ap (λ begun. begun && is_told (Some keyword.Next) others) (not_cycle head not_wanted)
not_told head others not_wanted rule.Reverse = ap (λ begun. begun && is_told (Some keyword.Reverse) others) (not_cycle head not_wanted)
not_told head others not_wanted rule.CurrentPlayer = ap (λ begun. begun && is_told (Some keyword.Player) others) (not_current head not_wanted)
not_told head others not_wanted rule.CurrentTeam = ap (λ begun. begun && is_told (Some keyword.Team) others) (not_current head not_wanted)
not_told head others not_wanted rule.TeamOf = ap (λ begun. begun && is_told (Some keyword.Of) others) (not_team head not_wanted)
not_told head others not_wanted r = and_right (begins (tree_by head) r) false refl

find_none : (test : Rule → Bool) → ((r : Rule) → test r ≡ false) → (rules : List Rule) → find test rules ≡ None
find_none test fails [] = refl
find_none test fails (r ∷ rules) = ap₂ (λ passes rest. if passes then Some r else rest) (fails r) (find_none test fails rules)

pub none_told : (place : Symbol) (head : Head) (tree : Tree) (others : Trees) → wants_second head ≡ false
    → ((r : Rule) → begins tree r ≡ begins (tree_by head) r) → told_rule place tree others ≡ None
none_told place head tree others not_wanted same =
    find_none (λ r. begins tree r && is_told (second_word r) others)
    (λ r. ap (λ begun. begun && is_told (second_word r) others) (same r) ∙ not_told head others not_wanted r) (forms_of place)

-- what is no word tells no form
no_word_told : (second : Option Keyword) (others : Trees) (begun : Bool) → begin_with_word others ≡ false
    → (begun && is_told second others) ≡ false
no_word_told second others false no_word = refl
no_word_told None others true no_word = refl
no_word_told (Some keyword) nil true no_word = refl
no_word_told (Some keyword) (cons (word bytes from to) rest) true no_word = absurd cc
no_word_told (Some keyword) (cons (list parts from to) rest) true no_word = refl

pub none_told_by : (place : Symbol) (tree : Tree) (others : Trees) → begin_with_word others ≡ false
    → told_rule place tree others ≡ None
none_told_by place tree others no_word =
    find_none (λ r. begins tree r && is_told (second_word r) others)
    (λ r. no_word_told (second_word r) others (begins tree r) no_word) (forms_of place)
