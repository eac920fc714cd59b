-- Forms that stand for something have the shape of their place: lists by their parts, names, variables, owners, locations,
-- stored numbers and literals.
use Rattle.std.proofs.Common.{◌≡◌, ℕ, suc, ◌+◌, ◌==◌, nat_le, nat_lt, Bool, true, false, not, ◌&&◌, ◌||◌, cond, List, [], ◌∷◌, ◌++◌, ℤ, pos, neg_ℤ, int_le, Option, Some, None, slice_get, option_map, refl, sym, subst, ap, ap₂, ◌∙◌, arith, leb-true, lt-ltb}
use Rattle.std.specs.Prelude.{codes}
use Rattle.std.specs.Option.{option_to_list}
use Rattle.std.proofs.lemmas.Bool.{cond-true, cond-false, or_right}
use Rattle.std.proofs.lemmas.Slice.Eq.{bytes_eq-Decides}
use Rattle.std.proofs.lemmas.Int.{ints}
use Rattle.std.proofs.lemmas.Option.{same_Some}
use Rattle.rc_base.specs.Literal.{integer}
use Rattle.rc_base.specs.Tree.{Tree, word, list, Trees, nil, cons, count}
use Rattle.rc_sheet_spec.specs.Sheet.{Sort, player_sort, LocKind, vloc, iloc, hloc, mem, LocName, Who, game, current_player, current_team, team_of_current, team_of_var, who_var, Loc, Num}
use Rattle.rc_base.specs.Clamp.{IsWithinClamp, largest_number}
use Rattle.rc_sheet_spec.specs.Rows.{◌▸◌, End, Row, Word, Atom}
use Rattle.rc_sheet_spec.specs.Naming.{Naming, Scope, Named, Binder, InScope, Literal, KindOf}
use Rattle.rc_sheet_spec.specs.Naming.{kind_word as kind_bytes}
use Rattle.rc_sheet_spec.specs.StandsExpressions.{StandsOwner, StandsHolder, StandsLoc, StandsNum}
use Rattle.rc_check.specs.Grammar.{front_of, more_of}
use Rattle.rc_check.specs.Keyword.{text_of}
use Rattle.rc_check.specs.Faults.{is_word, is_variable, is_kind, atom_kind, is_within, is_number, unless, faults, faults_at, faults_in, told_faults, lacks_players, rule_of, behind_front, or_behind, place_at, fits}
use Rattle.rc_sheet.specs.ReadNames.{sized, rule_at}
use Rattle.rc_sheet.proofs.One.Rows.{three_parts}
use Rattle.rc_sheet.proofs.One.Names.{variable_word, owner_forms, loc_rule_in_cards, loc_rule_in_domain, loc_rule_in_members, loc_rule_alone, num_rule_in_numbers, num_rule_in_sides, num_rule_alone}
use Rattle.rc_check.specs.declared.fault.SheetFault.{SheetFault}
use Rattle.rc_check.specs.declared.fault.SheetKind.{SheetKind}
use Rattle.rc_check.specs.declared.fault.SheetKind.TheVariants.{Shape, Number}
use Rattle.rc_check.specs.declared.keyword.Keyword.{Keyword}
use Rattle.rc_check.specs.declared.keyword.Keyword.TheVariants as keyword
use Rattle.rc_check.specs.declared.grammar.Symbol.{Symbol}
use Rattle.rc_check.specs.declared.grammar.Symbol.TheVariants as symbol
use Rattle.rc_check.specs.declared.grammar.Rule.{Rule}
use Rattle.rc_check.specs.declared.grammar.Rule.TheVariants as rule

-- LISTS

-- a list that is this form, with its right number of parts, of which none is at fault
pub by_form : (p : Symbol) (r : Rule) (parts : Trees) (from to : ℕ) → rule_of p parts ≡ Some r → fits (count parts) r ≡ true
    → lacks_players r parts ≡ false → faults_in r (count parts) 0 parts ≡ [] → faults p (list parts from to) ≡ []
by_form p r parts from to told fit complete none =
    ap (λ o. told_faults p from parts (λ r. faults_in r (count parts) 0 parts) o) told
    ∙ cond-true (fits (count parts) r) _ _ fit ∙ cond-false (lacks_players r parts) _ _ complete ∙ none

-- one part of a form, and those behind it
pub part_in : (r : Rule) (n index : ℕ) (p : Symbol) (tree : Tree) (trees : Trees) → place_at r n index ≡ Some p
    → faults p tree ≡ [] → faults_in r n (index + 1) trees ≡ [] → faults_in r n index (cons tree trees) ≡ []
part_in r n index p tree trees here none later =
    ap₂ (λ (xs ys : List SheetFault). xs ++ ys) (ap (λ o. faults_at o tree) here ∙ none) later

-- all of these trees are fine at a place
abbrev pub AllShaped : Symbol → Trees → Type 0
AllShaped p nil = Unit {0}
AllShaped p (cons tree trees) = (faults p tree ≡ []) × AllShaped p trees

-- the first trees are fine at these places, and the others at that one, where there may be more
abbrev pub AreShaped : List Symbol → Option Symbol → Trees → Type 0
AreShaped [] None nil = Unit {0}
AreShaped [] None (cons tree trees) = ⊥
AreShaped [] (Some p) trees = AllShaped p trees
AreShaped (p ∷ places) more nil = ⊥
AreShaped (p ∷ places) more (cons tree trees) = (faults p tree ≡ []) × AreShaped places more trees

-- a form whose parts are told by its places alone
abbrev pub is_plain : Rule → Bool
is_plain rule.Game = false
is_plain rule.Setup = false
is_plain r = true

plain_behind : (r : Rule) (last : Bool) → is_plain r ≡ true → behind_front r last ≡ more_of r
plain_behind rule.Game last is = absurd cc
plain_behind r last is = refl

plain_complete : (r : Rule) (parts : Trees) → is_plain r ≡ true → lacks_players r parts ≡ false
plain_complete rule.Setup parts is = absurd cc
plain_complete r parts is = refl

-- the parts from one on, where these places are left
pub parts_from : (r : Rule) (n index : ℕ) (rest : List Symbol) (more : Option Symbol) (trees : Trees)
    → ((last : Bool) → behind_front r last ≡ more) → ((i : ℕ) → slice_get (front_of r) (index + i) ≡ slice_get rest i)
    → AreShaped rest more trees → faults_in r n index trees ≡ []
parts_from r n index rest more nil back left all = refl
parts_from r n index [] None (cons tree trees) back left all = absurd all
parts_from r n index [] (Some p) (cons tree trees) back left all =
    part_in r n index p tree trees
    (ap₂ or_behind (ap (slice_get (front_of r)) (omega arith) ∙ left 0) (back (index + 1 == n)))
    all.0
    (parts_from r n (index + 1) [] (Some p) trees back
    (λ i. ap (slice_get (front_of r)) (omega arith) ∙ left (suc i)) all.1)
parts_from r n index (p ∷ rest) more (cons tree trees) back left all =
    part_in r n index p tree trees
    (ap (λ o. or_behind o (behind_front r (index + 1 == n))) (ap (slice_get (front_of r)) (omega arith) ∙ left 0))
    all.0
    (parts_from r n (index + 1) rest more trees back
    (λ i. ap (slice_get (front_of r)) (omega arith) ∙ left (suc i)) all.1)

-- a list is fine where it is this form, and has so many parts, which are fine
pub form_shaped : (p : Symbol) (r : Rule) (parts : Trees) (from to : ℕ) → rule_of p parts ≡ Some r → fits (count parts) r ≡ true
    → is_plain r ≡ true → AreShaped (front_of r) (more_of r) parts → faults p (list parts from to) ≡ []
form_shaped p r parts from to told fit plain all =
    by_form p r parts from to told fit (plain_complete r parts plain)
    (parts_from r (count parts) 0 (front_of r) (more_of r) parts (λ last. plain_behind r last plain)
    (λ i. ap (slice_get (front_of r)) (omega arith)) all)

-- the same, by the rule that a reader finds
sized_rule : (n : ℕ) (found : Option Rule) (r : Rule) → sized n found ≡ Some r → (found ≡ Some r) × (fits n r ≡ true)
sized_rule n None r is = absurd cc
sized_rule n (Some x) r is = by (fits n x) refl is
  where
    by : (b : Bool) → fits n x ≡ b → cond b (Some x) None ≡ Some r → (Some x ≡ Some r) × (fits n r ≡ true)
    by true fit is = (is, subst (λ r. fits n r ≡ true) (same_Some x r is) fit)
    by false fit is = absurd cc

pub row_shaped : (p : Symbol) (r : Rule) (parts : Trees) (from to : ℕ) → rule_at p parts ≡ Some r → is_plain r ≡ true
    → AreShaped (front_of r) (more_of r) parts → faults p (list parts from to) ≡ []
row_shaped p r parts from to is plain all =
    let both = sized_rule (count parts) (rule_of p parts) r is in
    form_shaped p r parts from to both.0 both.1 plain all

-- a form of which there may be more parts fits where there are so many behind its head
pub more_fit : (least : ℕ) (parts : Trees) → nat_le least (count parts) ≡ true → nat_lt least (suc (count parts)) ≡ true
more_fit least parts is =
    let enough = leb-true least (count parts) is in
    lt-ltb least (suc (count parts)) (omega (arith, enough))

-- or behind two parts, and behind three
pub more_fit_two : (parts : Trees) → nat_le 1 (count parts) ≡ true → nat_lt 2 (suc (suc (count parts))) ≡ true
more_fit_two parts is =
    let enough = leb-true 1 (count parts) is in
    lt-ltb 2 (suc (suc (count parts))) (omega (arith, enough))

pub more_fit_three : (parts : Trees) → nat_le 1 (count parts) ≡ true → nat_lt 3 (suc (suc (suc (count parts)))) ≡ true
more_fit_three parts is =
    let enough = leb-true 1 (count parts) is in
    lt-ltb 3 (suc (suc (suc (count parts)))) (omega (arith, enough))

-- where one of a kind stands behind the front and there may be more
pub some_shaped : (p : Symbol) (least : ℕ) (parts : Trees) → nat_le (suc least) (count parts) ≡ true → AllShaped p parts
    → AreShaped (p ∷ []) (Some p) parts
some_shaped p least nil is all = let none = leb-true (suc least) 0 is in absurd (omega (arith, none))
some_shaped p least (cons tree trees) is all = all

-- ATOMS

-- what a test takes isn't refused
pub accepted : (b : Bool) (kind : SheetKind) → b ≡ true → unless b kind ≡ None
accepted true kind is = refl
accepted false kind is = absurd cc

pub atom_shaped : (p : Symbol) (bytes : List ℕ) (from to : ℕ) → atom_kind p bytes ≡ None → faults p (word bytes from to) ≡ []
atom_shaped p bytes from to is =
    ap (λ (o : Option SheetKind). option_to_list (option_map (λ kind. record { kind = kind; at = from }) o)) is

-- a plain word, at a name's place and at a branch's, and a variable
pub name_shaped : (words : List (List ℕ)) (n : ℕ) (tree : Tree) → Named words n tree
    → (faults symbol.Name tree ≡ []) × (faults symbol.Branch tree ≡ [])
name_shaped words n (list parts from to) named = absurd named
name_shaped words n (word bytes from to) named =
    let plain : unless (not (is_variable bytes)) Shape ≡ None =
    ap (λ b. unless (not b) Shape) named.1 in
    (atom_shaped symbol.Name bytes from to plain, atom_shaped symbol.Branch bytes from to plain)

pub binder_shaped : (naming : Naming) (bound : ℕ) (tree : Tree) → Binder naming bound tree → faults symbol.Variable tree ≡ []
binder_shaped naming bound (list parts from to) binds = absurd binds
binder_shaped naming bound (word bytes from to) binds =
    atom_shaped symbol.Variable bytes from to (ap (λ b. unless b Shape) binds.1)

-- a variable stands wherever its sort does
pub variable_shaped : (p : Symbol) (scope : Scope) (sort : Sort) (var : ℕ) (tree : Tree) → InScope scope sort var tree
    → ((rest : List ℕ) → atom_kind p (39 ∷ rest) ≡ None) → faults p tree ≡ []
variable_shaped p scope sort var (list parts from to) bound takes = absurd bound
variable_shaped p scope sort var (word bytes from to) bound takes =
    variable_word (λ b. faults p (word b from to) ≡ []) bytes bound.1 (λ rest. atom_shaped p (39 ∷ rest) from to (takes rest))

-- the word of a kind
kind_taken : (kind : LocKind) → unless (is_kind (kind_bytes kind)) Shape ≡ None
kind_taken vloc = refl
kind_taken kind = refl

kind_by : (found : Option LocName) (bytes : List ℕ) → option_map (λ loc. kind_bytes loc.kind) found ≡ Some bytes
    → unless (is_kind bytes) Shape ≡ None
kind_by None bytes is = absurd cc
kind_by (Some loc) bytes is = subst (λ b. unless (is_kind b) Shape ≡ None) (same_Some _ bytes is) (kind_taken loc.kind)

pub kind_shaped : (naming : Naming) (name : ℕ) (tree : Tree) → KindOf naming name tree → faults symbol.Kind tree ≡ []
kind_shaped naming name (list parts from to) is = absurd is
kind_shaped naming name (word bytes from to) is =
    atom_shaped symbol.Kind bytes from to (kind_by (slice_get naming.locs name) bytes is)

-- a number within its range
range_taken : (z : ℤ) → IsWithinClamp z → is_within (neg_ℤ (pos largest_number)) (pos largest_number) (Some z) ≡ true
range_taken z is =
    let least = is.0 in
    let most = is.1 in
    let low : true ≡ int_le (neg_ℤ (pos largest_number)) z = omega (arith, ints, least) in
    let high : true ≡ int_le z (pos largest_number) = omega (arith, ints, most) in
    ap₂ ◌&&◌ (sym low) (sym high)

number_taken : (z : ℤ) (bytes : List ℕ) → integer bytes ≡ Some z → IsWithinClamp z → is_number bytes ≡ true
number_taken z bytes is range =
    ap (λ o. is_within (neg_ℤ (pos largest_number)) (pos largest_number) o) is ∙ range_taken z range

pub literal_shaped : (z : ℤ) (tree : Tree) → Literal z tree → IsWithinClamp z
    → (faults symbol.Integer tree ≡ []) × (faults symbol.Side tree ≡ []) × (faults symbol.Points tree ≡ [])
literal_shaped z (list parts from to) is range = absurd is
literal_shaped z (word bytes from to) is range =
    let taken = number_taken z bytes is range in (
      atom_shaped symbol.Integer bytes from to (accepted (is_number bytes) Number taken),
      atom_shaped symbol.Side bytes from to (accepted (is_variable bytes || is_number bytes) Number
          (or_right (is_variable bytes) (is_number bytes) taken)),
      atom_shaped symbol.Points bytes from to (accepted (is_number bytes) Number taken),
    )

-- the fixed words of a form
pub fixed_shaped : (k : Keyword) (tree : Tree) → Word (λ bytes. bytes ≡ text_of k) tree → faults (symbol.Word k) tree ≡ []
fixed_shaped k (list parts from to) is = absurd is
fixed_shaped k (word bytes from to) is =
    atom_shaped (symbol.Word k) bytes from to
    (accepted (is_word k bytes) Shape ((bytes_eq-Decides bytes (text_of k)).1 is))

-- OWNERS

-- at an owner's place, a holder's and a side's
abbrev pub OwnerShaped : Tree → Type 0
OwnerShaped tree = (faults symbol.Owner tree ≡ []) × (faults symbol.Holder tree ≡ []) × (faults symbol.Side tree ≡ [])

owner_row : (r : Rule) (parts : Trees) (from to : ℕ) → rule_at symbol.Owner parts ≡ Some r → rule_at symbol.Holder parts ≡ Some r
    → rule_at symbol.Side parts ≡ Some r → is_plain r ≡ true → AreShaped (front_of r) (more_of r) parts
    → OwnerShaped (list parts from to)
owner_row r parts from to owner holder side plain all = (
  row_shaped symbol.Owner r parts from to owner plain all,
  row_shaped symbol.Holder r parts from to holder plain all,
  row_shaped symbol.Side r parts from to side plain all,
)

pub owner_shaped : (scope : Scope) (who : Who) (tree : Tree) → StandsOwner scope who tree → OwnerShaped tree
owner_shaped scope who tree stands =
    owner_forms scope (λ who tree. OwnerShaped tree)
    (λ f t f' t' from to.
    owner_row rule.CurrentPlayer (cons (word (codes "current") f t) (cons (word (codes "player") f' t') nil)) from to
    refl refl refl refl (refl, (refl, tt)))
    (λ f t f' t' from to.
    owner_row rule.CurrentTeam (cons (word (codes "current") f t) (cons (word (codes "team") f' t') nil)) from to
    refl refl refl refl (refl, (refl, tt)))
    (λ f t f' t' g u g' u' start end from to.
    let current = cons (word (codes "current") g u) (cons (word (codes "player") g' u') nil) in
    owner_row rule.TeamOf
    (cons (word (codes "team") f t) (cons (word (codes "of") f' t') (cons (list current start end) nil))) from to
    refl refl refl refl
    (refl, (refl, (row_shaped symbol.Player rule.CurrentPlayer current start end refl refl (refl, (refl, tt)), tt))))
    (λ f t f' t' from to var player is.
    owner_row rule.TeamOf (cons (word (codes "team") f t) (cons (word (codes "of") f' t') (cons player nil))) from to
    refl refl refl refl
    (refl, (refl, (variable_shaped symbol.Player scope player_sort var player is (λ rest. refl), tt))))
    (λ bytes from to var is. (
      variable_shaped symbol.Owner scope player_sort var (word bytes from to) is (λ rest. refl),
      variable_shaped symbol.Holder scope player_sort var (word bytes from to) is (λ rest. refl),
      variable_shaped symbol.Side scope player_sort var (word bytes from to) is (λ rest. refl),
    ))
    who tree stands

pub holder_shaped : (scope : Scope) (who : Who) (tree : Tree) → StandsHolder scope who tree → faults symbol.Holder tree ≡ []
holder_shaped scope game (word bytes from to) stands = subst (λ b. faults symbol.Holder (word b from to) ≡ []) (sym stands) refl
holder_shaped scope game (list parts from to) stands = absurd stands
holder_shaped scope current_player tree stands = (owner_shaped scope current_player tree stands).1
holder_shaped scope current_team tree stands = (owner_shaped scope current_team tree stands).1
holder_shaped scope team_of_current tree stands = (owner_shaped scope team_of_current tree stands).1
holder_shaped scope (team_of_var var) tree stands = (owner_shaped scope (team_of_var var) tree stands).1
holder_shaped scope (who_var var) tree stands = (owner_shaped scope (who_var var) tree stands).1

-- LOCATIONS AND STORED NUMBERS

-- at a place for cards
abbrev pub CardsShaped : Tree → Type 0
CardsShaped tree =
    (faults symbol.Collection tree ≡ []) × (faults symbol.Members tree ≡ []) × (faults symbol.Domain tree ≡ [])

pub home_shaped : (naming : Naming) (scope : Scope) (who : Who) (number : ℕ) (tree : Tree)
    → Row (StandsHolder scope who ▸ KindOf naming number ▸ Named naming.names.locs number ▸ End) tree
    → (faults symbol.Location tree ≡ []) × CardsShaped tree
home_shaped naming scope who number tree stands =
    three_parts (StandsHolder scope who) (KindOf naming number) (Named naming.names.locs number)
    (λ tree. (faults symbol.Location tree ≡ []) × CardsShaped tree) tree stands
    (λ holder kind name from to holds k n.
    let parts = cons holder (cons kind (cons name nil)) in
    let all : AreShaped (front_of rule.Location) None parts = (
      holder_shaped scope who holder holds,
      (kind_shaped naming number kind k, ((name_shaped naming.names.locs number name n).0, tt)),
    ) in (
      row_shaped symbol.Location rule.Location parts from to (loc_rule_alone scope who holder kind name holds) refl all,
      (
        row_shaped symbol.Collection rule.Location parts from to (loc_rule_in_cards scope who holder kind name holds) refl all,
        row_shaped symbol.Members rule.Location parts from to (loc_rule_in_members scope who holder kind name holds) refl all,
        row_shaped symbol.Domain rule.Location parts from to (loc_rule_in_domain scope who holder kind name holds) refl all,
      ),
    ))

pub loc_shaped : (naming : Naming) (scope : Scope) (loc : Loc) (tree : Tree) → StandsLoc naming scope loc tree
    → (faults symbol.Location tree ≡ []) × CardsShaped tree
loc_shaped naming scope loc tree stands = home_shaped naming scope loc.who loc.name tree stands.0

-- at a number's place, and a side's
abbrev pub NumberShaped : Tree → Type 0
NumberShaped tree = (faults symbol.Integer tree ≡ []) × (faults symbol.Side tree ≡ [])

pub num_shaped : (naming : Naming) (scope : Scope) (num : Num) (tree : Tree) → StandsNum naming scope num tree
    → (faults symbol.Counter tree ≡ []) × NumberShaped tree
num_shaped naming scope num tree stands =
    three_parts (StandsHolder scope num.who) (Atom "sto") (Named naming.names.nums num.name)
    (λ tree. (faults symbol.Counter tree ≡ []) × NumberShaped tree) tree stands.0
    (λ holder sto name from to holds s n.
    let parts = cons holder (cons sto (cons name nil)) in
    let all : AreShaped (front_of rule.Counter) None parts = (
      holder_shaped scope num.who holder holds,
      (fixed_shaped keyword.Sto sto s, ((name_shaped naming.names.nums num.name name n).0, tt)),
    ) in (
      row_shaped symbol.Counter rule.Counter parts from to (num_rule_alone scope num.who holder sto name holds) refl all,
      (
        row_shaped symbol.Integer rule.Counter parts from to (num_rule_in_numbers scope num.who holder sto name holds) refl all,
        row_shaped symbol.Side rule.Counter parts from to (num_rule_in_sides scope num.who holder sto name holds) refl all,
      ),
    ))
