-- Parts that are at no fault and leave nothing behind.
use Rattle.std.proofs.Common.{◌≡◌, ℕ, Bool, true, false, not, ◌&&◌, ◌||◌, cond, List, [], ◌∷◌, ◌++◌, Option, Some, None, is_some, Ok, refl, sym, ap, ap₂, ◌∙◌, arith}
use Rattle.std.proofs.lemmas.List.{append-nil}
use Rattle.rc_base.specs.Tree.{Tree, word, list, Trees}
use Rattle.rc_base.specs.Words.{is_variable}
use Rattle.rc_base.specs.Limits.{most_locations, most_numbers}
use Rattle.rc_check.specs.SecondParts.{Role, used_attribute, used_value, used_map, given_value, second_side, Standing, atom, form, parts_at}
use Rattle.rc_check.specs.SecondNames.{some_of, member_by, mention_of, OwnedMention}
use Rattle.rc_check.specs.SecondFaults.{sorts_at, is_unbound, is_misused, is_other_side, differs_from, is_other_mention, is_misplaced, is_deep}
use Rattle.rc_check.specs.Settled.{names_nothing, is_member, is_quiet, is_plain, is_like, is_repeated, is_settled_first, is_settled}
use Rattle.rc_check.specs.Summary.{Whole, Summary, Owned, is_member_again, is_form_again, is_not_given, is_stranger, is_unknown_form, is_wrong_mention, is_value_over, is_form_over, is_setup_without_deck, goes_over, new_owned, owners_of, is_mentioned, counted, with_mention, with_value, see_atom, see_form, see, kind_by, check_all}
use Rattle.rc_check.proofs.Checked.{fine}
use Rattle.rc_check.proofs.FirstKind.{kind_none}
use Rattle.rc_check.specs.declared.grammar.Symbol.{Symbol}
use Rattle.rc_check.specs.declared.grammar.Symbol.TheVariants as symbol
use Rattle.rc_check.specs.declared.grammar.Rule.{Rule}
use Rattle.rc_check.specs.declared.grammar.Rule.TheVariants as rule

-- TESTS THAT HOLD AND FAIL

both_first : (a b : Bool) → (a && b) ≡ true → a ≡ true
both_first true b both = refl
both_first false b both = absurd cc

both_second : (a b : Bool) → (a && b) ≡ true → b ≡ true
both_second true b both = both
both_second false b both = absurd cc

not_holds : (b : Bool) → not b ≡ true → b ≡ false
not_holds true holds = absurd cc
not_holds false holds = refl

three_hold : (a b c : Bool) → (a && b && c) ≡ true → (a ≡ true) × (b ≡ true) × (c ≡ true)
three_hold true true c all = (refl, refl, all)
three_hold true false c all = absurd cc
three_hold false b c all = absurd cc

middle_fails : (a b c : Bool) → b ≡ false → (a && b && c) ≡ false
middle_fails true b c fails = rw fails refl
middle_fails false b c fails = refl

none_of_two : (a b : Bool) → a ≡ false → b ≡ false → (a || b) ≡ false
none_of_two a b first second = rw (first, second) refl

none_of_three : (a b c : Bool) → a ≡ false → b ≡ false → c ≡ false → (a || b || c) ≡ false
none_of_three a b c first second third = rw (first, second, third) refl

-- ATOMS

not_given : (whole : Whole) (role : Role) (bytes : List ℕ) → names_nothing role ≡ true → is_not_given whole role bytes ≡ false
not_given whole used_attribute bytes nothing = absurd cc
not_given whole used_value bytes nothing = absurd cc
not_given whole used_map bytes nothing = absurd cc
not_given whole role bytes nothing = refl

no_side : (at : Standing) (role : Role) → names_nothing role ≡ true → is_other_side at role ≡ false
no_side at second_side nothing = absurd cc
no_side at role nothing = refl

not_over : (seen : Summary) (role : Role) (bytes : List ℕ) → names_nothing role ≡ true → is_value_over seen role bytes ≡ false
not_over seen given_value bytes nothing = absurd cc
not_over seen role bytes nothing = refl

no_value : (role : Role) (bytes : List ℕ) (words : List (List ℕ)) → names_nothing role ≡ true → with_value role bytes words ≡ words
no_value given_value bytes words nothing = absurd cc
no_value role bytes words nothing = refl

not_again : (seen : Summary) (place : Symbol) (bytes : List ℕ) → is_member place ≡ false → is_member_again seen place bytes ≡ false
not_again seen symbol.Member bytes no_member = absurd cc
not_again seen place bytes no_member = refl

no_stranger : (whole : Whole) (seen : Summary) (place : Symbol) (bytes : List ℕ) → is_member place ≡ false
    → is_stranger whole seen place bytes ≡ false
no_stranger whole seen symbol.Member bytes no_member = absurd cc
no_stranger whole seen place bytes no_member = refl

none_by_place : (place : Symbol) (bytes : List ℕ) → is_member place ≡ false → member_by place bytes ≡ []
none_by_place symbol.Member bytes no_member = absurd cc
none_by_place place bytes no_member = refl

module _ (whole : Whole) (seen : Summary) (at : Standing) (bytes : List ℕ) (from : ℕ) (nothing : names_nothing at.role ≡ true)
    (no_member : is_member at.place ≡ false) (no_variable : some_of (sorts_at at.place) ≡ false) where
  atom_kind : None ≡ kind_by whole seen (atom at bytes from)
  atom_kind =
      kind_none whole seen (atom at bytes from) (not_again seen at.place bytes no_member)
      (none_of_three (is_unbound at bytes) (is_not_given whole at.role bytes) (is_stranger whole seen at.place bytes)
      (middle_fails (is_variable bytes) (some_of (sorts_at at.place)) _ no_variable) (not_given whole at.role bytes nothing)
      (no_stranger whole seen at.place bytes no_member))
      (none_of_two (is_misused at bytes) (is_other_side at at.role)
      (middle_fails (is_variable bytes) (some_of (sorts_at at.place)) _ no_variable) (no_side at at.role nothing))
      (not_over seen at.role bytes nothing)
      refl

  atom_seen : see_atom seen at bytes ≡ seen
  atom_seen =
      ap₂ (λ members values. record seen { members = members; values = values })
      (ap (λ more. seen.members ++ more) (none_by_place at.place bytes no_member) ∙ append-nil seen.members)
      (no_value at.role bytes seen.values nothing)

  atom_checked : check_all whole seen (atom at bytes from ∷ []) ≡ Ok seen
  atom_checked =
      fine whole seen (atom at bytes from) (check_all whole (see whole seen (atom at bytes from)) []) (sym atom_kind)
      ∙ ap (λ known. Ok known) atom_seen

-- such an atom is at no fault and leaves nothing behind
pub quiet_checked : (whole : Whole) (seen : Summary) (at : Standing) (tree : Tree) → is_quiet tree at.place at.role ≡ true
    → check_all whole seen (parts_at (Some at) tree) ≡ Ok seen
quiet_checked whole seen at (word bytes from to) quiet =
    let all = three_hold (names_nothing at.role) (not (is_member at.place)) (not (some_of (sorts_at at.place))) quiet in
    atom_checked whole seen at bytes from all.0 (not_holds (is_member at.place) all.1) (not_holds (some_of (sorts_at at.place)) all.2)
quiet_checked whole seen at (list parts from to) quiet = absurd cc

-- FORMS THAT NO TEST IS ABOUT

not_form_again : (seen : Summary) (at : Standing) (r : Rule) (parts : Trees) → is_plain r ≡ true → is_form_again seen at r parts ≡ false
not_form_again seen at rule.CreatePlayers parts plain = absurd cc
not_form_again seen at rule.CreateTeams parts plain = absurd cc
not_form_again seen at rule.PutPoints parts plain = absurd cc
not_form_again seen at rule.Group parts plain = absurd cc
not_form_again seen at rule.Filter parts plain = absurd cc
not_form_again seen at rule.AnyOf parts plain = absurd cc
not_form_again seen at rule.Each parts plain = absurd cc
not_form_again seen at rule.ForAll parts plain = absurd cc
not_form_again seen at rule.ForAny parts plain = absurd cc
not_form_again seen at r parts plain = refl

not_unknown : (whole : Whole) (seen : Summary) (at : Standing) (r : Rule) (parts : Trees) → is_plain r ≡ true
    → is_unknown_form whole seen at r parts ≡ false
not_unknown whole seen at rule.CreateTeams parts plain = absurd cc
not_unknown whole seen at rule.CurrentPlayer parts plain = absurd cc
not_unknown whole seen at rule.CurrentTeam parts plain = absurd cc
not_unknown whole seen at rule.Choice parts plain = absurd cc
not_unknown whole seen at rule.Next parts plain = absurd cc
not_unknown whole seen at rule.Reverse parts plain = absurd cc
not_unknown whole seen at rule.Known parts plain = absurd cc
not_unknown whole seen at r parts plain = refl

not_wrong : (seen : Summary) (at : Standing) (r : Rule) (parts : Trees) → is_plain r ≡ true → is_wrong_mention seen at r parts ≡ false
not_wrong seen at rule.Location parts plain = absurd cc
not_wrong seen at rule.Counter parts plain = absurd cc
not_wrong seen at r parts plain = refl

not_form_over : (whole : Whole) (seen : Summary) (r : Rule) (parts : Trees) → is_plain r ≡ true → is_form_over whole seen r parts ≡ false
not_form_over whole seen rule.CreateDeck parts plain = absurd cc
not_form_over whole seen rule.Location parts plain = absurd cc
not_form_over whole seen rule.Counter parts plain = absurd cc
not_form_over whole seen rule.Group parts plain = absurd cc
not_form_over whole seen rule.Entry parts plain = absurd cc
not_form_over whole seen rule.PutPoints parts plain = absurd cc
not_form_over whole seen rule.PlayerStage parts plain = absurd cc
not_form_over whole seen rule.TeamStage parts plain = absurd cc
not_form_over whole seen rule.Choice parts plain = absurd cc
not_form_over whole seen r parts plain = refl

not_deep : (at : Standing) (r : Rule) → is_plain r ≡ true → is_deep at.around r ≡ false
not_deep at rule.Repeat plain = absurd cc
not_deep at rule.Filter plain = absurd cc
not_deep at rule.AnyOf plain = absurd cc
not_deep at rule.Each plain = absurd cc
not_deep at rule.ForAll plain = absurd cc
not_deep at rule.ForAny plain = absurd cc
not_deep at r plain = refl

has_cards : (whole : Whole) (at : Standing) (r : Rule) (parts : Trees) (from : ℕ) → is_plain r ≡ true
    → is_setup_without_deck whole (form at r parts from) ≡ false
has_cards whole at rule.Setup parts from plain = absurd cc
has_cards whole at r parts from plain = refl

plain_seen : (whole : Whole) (seen : Summary) (r : Rule) (parts : Trees) → is_plain r ≡ true → see_form whole seen r parts ≡ seen
plain_seen whole seen rule.CreatePlayers parts plain = absurd cc
plain_seen whole seen rule.CreateTeams parts plain = absurd cc
plain_seen whole seen rule.CreateDeck parts plain = absurd cc
plain_seen whole seen rule.Group parts plain = absurd cc
plain_seen whole seen rule.Entry parts plain = absurd cc
plain_seen whole seen rule.PutPoints parts plain = absurd cc
plain_seen whole seen rule.Location parts plain = absurd cc
plain_seen whole seen rule.Counter parts plain = absurd cc
plain_seen whole seen rule.PlayerStage parts plain = absurd cc
plain_seen whole seen rule.TeamStage parts plain = absurd cc
plain_seen whole seen rule.Choice parts plain = absurd cc
plain_seen whole seen r parts plain = refl

plain_kind : (whole : Whole) (seen : Summary) (at : Standing) (r : Rule) (parts : Trees) (from : ℕ) → is_plain r ≡ true
    → is_other_side at at.role ≡ false → None ≡ kind_by whole seen (form at r parts from)
plain_kind whole seen at r parts from plain no_other =
    kind_none whole seen (form at r parts from) (not_form_again seen at r parts plain) (not_unknown whole seen at r parts plain)
    (none_of_two (is_wrong_mention seen at r parts) (is_other_side at at.role) (not_wrong seen at r parts plain) no_other)
    (none_of_two (is_form_over whole seen r parts) (is_deep at.around r) (not_form_over whole seen r parts plain) (not_deep at r plain))
    (has_cards whole at r parts from plain)

-- MENTIONS THAT STOOD EARLIER

like_same : (mention : OwnedMention) (found : Option OwnedMention) → is_like mention found ≡ true → differs_from mention found ≡ false
like_same mention None like = absurd cc
like_same mention (Some first) like = ap not like

like_some : (mention : OwnedMention) (found : Option OwnedMention) → is_like mention found ≡ true → is_some found ≡ true
like_some mention None like = absurd cc
like_some mention (Some first) like = refl

mentioned : (owned : Owned) (mention : OwnedMention) → is_repeated owned mention ≡ true → is_mentioned mention owned ≡ true
mentioned owned mention like = like_some mention _ like

not_more : (most n : ℕ) → goes_over most n 0 ≡ false
not_more most n = search (arith)

not_owned_over : (whole : Whole) (most : ℕ) (owned : Owned) (mention : OwnedMention) → is_repeated owned mention ≡ true
    → goes_over most owned.total (new_owned whole mention owned) ≡ false
not_owned_over whole most owned mention like =
    ap (λ already. goes_over most owned.total (cond already 0 (owners_of whole mention))) (mentioned owned mention like)
    ∙ not_more most owned.total

owned_same : (whole : Whole) (most : ℕ) (owned : Owned) (mention : OwnedMention) → is_repeated owned mention ≡ true
    → with_mention whole most mention owned ≡ owned
owned_same whole most owned mention like =
    ap (λ already. cond already owned
    (record { firsts = owned.firsts ++ mention ∷ []; total = counted most owned.total (owners_of whole mention) }))
    (mentioned owned mention like)

-- SETTLED FORMS

no_other_side : (at : Standing) (seen : Summary) (role : Role) (r : Rule) (parts : Trees) → is_settled seen role r parts ≡ true
    → is_other_side at role ≡ false
no_other_side at seen second_side r parts settled = absurd cc
no_other_side at seen role r parts settled = refl

settled_first : (seen : Summary) (role : Role) (r : Rule) (parts : Trees) → is_settled seen role r parts ≡ true
    → is_settled_first seen role r parts ≡ true
settled_first seen second_side r parts settled = absurd cc
settled_first seen role r parts settled = settled

-- a location's mention is like the first one, and its place takes it
location_like : (seen : Summary) (role : Role) (parts : Trees) → is_settled_first seen role rule.Location parts ≡ true
    → is_repeated seen.locations (mention_of parts) ≡ true
location_like seen role parts first =
    both_first (is_repeated seen.locations (mention_of parts)) (not (is_misplaced role (mention_of parts))) first

location_placed : (seen : Summary) (role : Role) (parts : Trees) → is_settled_first seen role rule.Location parts ≡ true
    → is_misplaced role (mention_of parts) ≡ false
location_placed seen role parts first =
    not_holds (is_misplaced role (mention_of parts))
    (both_second (is_repeated seen.locations (mention_of parts)) (not (is_misplaced role (mention_of parts))) first)

same_mention : (owned : Owned) (mention : OwnedMention) → is_repeated owned mention ≡ true
    → is_other_mention owned.firsts mention ≡ false
same_mention owned mention like = like_same mention _ like

settled_kind : (whole : Whole) (seen : Summary) (at : Standing) (r : Rule) (parts : Trees) (from : ℕ)
    → is_settled_first seen at.role r parts ≡ true → is_other_side at at.role ≡ false
    → None ≡ kind_by whole seen (form at r parts from)
settled_kind whole seen at rule.Location parts from first no_other =
    let mention = mention_of parts in
    let like = location_like seen at.role parts first in
    kind_none whole seen (form at rule.Location parts from) refl refl
    (none_of_two (is_wrong_mention seen at rule.Location parts) (is_other_side at at.role)
    (none_of_two (is_other_mention seen.locations.firsts mention) (is_misplaced at.role mention)
    (same_mention seen.locations mention like) (location_placed seen at.role parts first)) no_other)
    (none_of_two (is_form_over whole seen rule.Location parts) (is_deep at.around rule.Location)
    (not_owned_over whole most_locations seen.locations mention like) refl)
    refl
settled_kind whole seen at rule.Counter parts from first no_other =
    kind_none whole seen (form at rule.Counter parts from) refl refl
    (none_of_two (is_wrong_mention seen at rule.Counter parts) (is_other_side at at.role)
    (same_mention seen.numbers (mention_of parts) first) no_other)
    (none_of_two (is_form_over whole seen rule.Counter parts) (is_deep at.around rule.Counter)
    (not_owned_over whole most_numbers seen.numbers (mention_of parts) first) refl)
    refl
settled_kind whole seen at r parts from first no_other = plain_kind whole seen at r parts from first no_other

settled_seen : (whole : Whole) (seen : Summary) (role : Role) (r : Rule) (parts : Trees)
    → is_settled_first seen role r parts ≡ true → see_form whole seen r parts ≡ seen
settled_seen whole seen role rule.Location parts first =
    ap (λ owned. record seen { locations = owned })
    (owned_same whole most_locations seen.locations (mention_of parts) (location_like seen role parts first))
settled_seen whole seen role rule.Counter parts first =
    ap (λ owned. record seen { numbers = owned }) (owned_same whole most_numbers seen.numbers (mention_of parts) first)
settled_seen whole seen role r parts first = plain_seen whole seen r parts first

settled_deep : (seen : Summary) (at : Standing) (r : Rule) (parts : Trees) → is_settled_first seen at.role r parts ≡ true
    → is_deep at.around r ≡ false
settled_deep seen at rule.Location parts first = refl
settled_deep seen at rule.Counter parts first = refl
settled_deep seen at r parts first = not_deep at r first

-- such a form is at no fault and leaves nothing behind, and isn't too deep
pub settled_checked : (whole : Whole) (seen : Summary) (at : Standing) (r : Rule) (parts : Trees) (from : ℕ)
    → is_settled seen at.role r parts ≡ true → check_all whole seen (form at r parts from ∷ []) ≡ Ok seen
settled_checked whole seen at r parts from settled =
    let first = settled_first seen at.role r parts settled in
    fine whole seen (form at r parts from) (check_all whole (see whole seen (form at r parts from)) [])
    (sym (settled_kind whole seen at r parts from first (no_other_side at seen at.role r parts settled)))
    ∙ ap (λ known. Ok known) (settled_seen whole seen at.role r parts first)

pub settled_shallow : (seen : Summary) (at : Standing) (r : Rule) (parts : Trees) → is_settled seen at.role r parts ≡ true
    → is_deep at.around r ≡ false
settled_shallow seen at r parts settled = settled_deep seen at r parts (settled_first seen at.role r parts settled)
