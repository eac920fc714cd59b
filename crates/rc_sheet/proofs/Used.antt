-- The attributes, the values and the point maps that the parts behind a setup use are those that its lists mention.
use Rattle.std.proofs.Common.{◌≡◌, ℕ, ◌==◌, Bool, true, false, not, ◌||◌, List, [], ◌∷◌, ◌++◌, Option, Some, None, option_map, refl, sym, subst, ap, ◌∙◌}
use Rattle.std.specs.Prelude.{codes, if◌then◌else◌}
use Rattle.std.specs.List.{list_any, list_all, AllByRecursion}
use Rattle.std.proofs.lemmas.Bool.{cond-false, or_from}
use Rattle.std.proofs.lemmas.List.{append-nil}
use Rattle.rc_base.specs.Tree.{Tree, word, list, Trees, nil, cons}
use Rattle.rc_sheet_spec.specs.FormMentions.{gathered, all_gathered, attr_word, value_word, map_word, word_of, is_measure, is_text}
use Rattle.rc_check.specs.Faults.{faults_at, faults_in, place_at, count, fits}
use Rattle.rc_check.specs.Grammar.{forms_of}
use Rattle.rc_check.specs.Keyword.{text_of}
use Rattle.rc_check.specs.declared.keyword.Keyword.{Keyword}
use Rattle.rc_check.specs.declared.keyword.Keyword.TheVariants as keyword
use Rattle.rc_check.specs.declared.grammar.Symbol.{Symbol}
use Rattle.rc_check.specs.declared.grammar.Symbol.TheVariants as symbol
use Rattle.rc_check.specs.declared.grammar.Rule.{Rule}
use Rattle.rc_check.specs.declared.grammar.Rule.TheVariants as rule
use Rattle.rc_check.specs.declared.role.Role.{Role}
use Rattle.rc_check.specs.declared.role.Role.TheVariants.{No as no_role, UsedAttribute as used_attribute, UsedValue as used_value, UsedMap as used_map, GivenValue as given_value}
use Rattle.rc_check.specs.SecondParts.{front_roles, role_in, Standing, Part, atom, form, standing_in}
use Rattle.rc_sheet.proofs.Shapes.{none_in_both, HasShape, three_only, four_only, refuses, refuted, atom_only, fixed_only}
use Rattle.rc_sheet.proofs.Bodies.{is_body_rule, is_used, IsBody, body_rule, unused_list, standing_at, all_refused}
use Rattle.rc_sheet.proofs.Gathered.{by_atom, in_row, AllTell, Tells, quiet_row, quiet_role}

-- the roles of what an expression uses
abbrev pub is_attribute : Role → Bool
is_attribute used_attribute = true
is_attribute role = false

abbrev pub is_value : Role → Bool
is_value used_value = true
is_value role = false

abbrev pub is_map : Role → Bool
is_map used_map = true
is_map role = false

-- the words of the atoms in such roles
abbrev pub used_in : (Role → Bool) → Part → List (List ℕ)
used_in takes (atom at bytes from) = if takes at.role then bytes ∷ [] else []
used_in takes (form at r parts from) = []

-- an atom in another role gives nothing
pub quiet_atom : (own : Trees → List (List ℕ)) (takes : Role
    → Bool) (at : Standing) (r : Rule) (all : Trees) (index : ℕ) (tree : Tree)
    → takes (role_in at.role r index) ≡ false → by_atom own (used_in takes) (standing_in at r all index) tree ≡ []
quiet_atom own takes at r all index tree quiet = by_place (place_at r (count all) index) tree
  where
    by_place : (o : Option Symbol) (tree : Tree)
        → by_atom own (used_in takes) (option_map (λ q. standing_at at r all index q) o) tree ≡ []
    by_place None tree = refl
    by_place (Some q) (word bytes from to) = cond-false (takes (role_in at.role r index)) (bytes ∷ []) [] quiet
    by_place (Some q) (list parts from to) = refl

-- where forms without such a role mention nothing themselves, and the others what their atoms give
module _
    (own : Trees → List (List ℕ))
    (takes : Role → Bool)
    (unused : (role : Role) → is_used role ≡ false → takes role ≡ false)
    (silent : (r : Rule) (parts : Trees) → is_body_rule r ≡ true → list_any takes (front_roles r) ≡ false
    → faults_in r (count parts) 0 parts ≡ [] → own parts ≡ [])
    (spoken : (at : Standing) (r : Rule) (parts : Trees) → list_any takes (front_roles r) ≡ true → fits (count parts) r ≡ true
    → faults_in r (count parts) 0 parts ≡ []
    → in_row own (used_in takes) at r parts 0 parts ≡ all_gathered own parts ++ own parts)
  where
    tells_by : (at : Standing) (parts : Trees) (shape : HasShape at.place parts) → IsBody at
        → (b : Bool) → list_any takes (front_roles shape.form) ≡ b → Tells own (used_in takes) at shape.form parts
    tells_by at parts shape body true some from = spoken at shape.form parts some shape.fit shape.inner
    tells_by at parts shape body false none from =
        let outer = unused at.role (unused_list at.place at.role parts shape.form body.role_fits shape.told) in
        quiet_row own (used_in takes) at shape.form parts 0 parts
        (λ j tree. quiet_atom own takes at shape.form parts j tree
        (quiet_role takes shape.form at.role j none outer (unused no_role refl) (unused given_value refl)))
        ∙ sym (append-nil (all_gathered own parts))
        ∙ ap (λ l. all_gathered own parts ++ l)
        (sym (silent shape.form parts (body_rule at.place parts shape.form body.placed shape.told) none shape.inner))

    pub used_tell : AllTell own (used_in takes)
    used_tell at parts shape body from =
        tells_by at parts shape body (list_any takes (front_roles shape.form)) refl from

pub unused_attribute : (role : Role) → is_used role ≡ false → is_attribute role ≡ false
unused_attribute used_attribute is = absurd cc
unused_attribute role is = refl

pub unused_value : (role : Role) → is_used role ≡ false → is_value role ≡ false
unused_value used_value is = absurd cc
unused_value role is = refl

pub unused_map : (role : Role) → is_used role ≡ false → is_map role ≡ false
unused_map used_map is = absurd cc
unused_map role is = refl

-- behind a setup, only forms with such a role may begin with these words, where they have so many parts
abbrev begins_alone : (Role → Bool) → ℕ → List (List ℕ) → Rule → Bool
begins_alone takes n words r =
    list_any takes (front_roles r) || (not (is_body_rule r) || list_all (refuses (place_at r n 0)) words)

others_refuse : (takes : Role → Bool) (n : ℕ) (words : List (List ℕ)) (r : Rule) → begins_alone takes n words r ≡ true
    → is_body_rule r ≡ true → list_any takes (front_roles r) ≡ false
    → AllByRecursion (λ bytes. refuses (place_at r n 0) bytes ≡ true) words
others_refuse takes n words r alone body quiet =
    all_refused (list_any takes (front_roles r)) r (place_at r n 0) words alone body quiet

abbrev attr_heads : List (List ℕ)
attr_heads = codes "attr" ∷ codes "partition" ∷ []

abbrev is_heads : List (List ℕ)
is_heads = codes "is" ∷ []

abbrev map_heads : List (List ℕ)
map_heads = codes "max" ∷ codes "min" ∷ codes "sum" ∷ codes "points" ∷ []

attr_begins : (r : Rule) → begins_alone is_attribute 3 attr_heads r ≡ true
attr_begins rule.Game = refl
attr_begins r = refl

is_begins : (r : Rule) → begins_alone is_attribute 4 is_heads r ≡ true
is_begins rule.Game = refl
is_begins r = refl

value_begins : (r : Rule) → begins_alone is_value 4 is_heads r ≡ true
value_begins rule.Game = refl
value_begins r = refl

map_begins : (r : Rule) → begins_alone is_map 4 map_heads r ≡ true
map_begins rule.Game = refl
map_begins r = refl

attr_silent : (r : Rule) (parts : Trees) → is_body_rule r ≡ true → list_any is_attribute (front_roles r) ≡ false
    → faults_in r (count parts) 0 parts ≡ [] → attr_word parts ≡ []
attr_silent r nil body quiet none = refl
attr_silent r (cons h nil) body quiet none = refl
attr_silent r (cons h (cons c nil)) body quiet none = refl
attr_silent r (cons h (cons c (cons a nil))) body quiet none =
    let head = (none_in_both (faults_at (place_at r 3 0) h) _ none).0 in
    let refused = others_refuse is_attribute 3 attr_heads r (attr_begins r) body quiet in
    cond-false (is_text "attr" h || is_text "partition" h) (word_of a) []
    (or_from (is_text "attr" h) (is_text "partition" h) (refuted (place_at r 3 0) "attr" h head refused.0)
    (refuted (place_at r 3 0) "partition" h head refused.1.0))
attr_silent r (cons h (cons c (cons a (cons v nil)))) body quiet none =
    let head = (none_in_both (faults_at (place_at r 4 0) h) _ none).0 in
    let refused = others_refuse is_attribute 4 is_heads r (is_begins r) body quiet in
    cond-false (is_text "is" h) (word_of a) [] (refuted (place_at r 4 0) "is" h head refused.0)
attr_silent r (cons h (cons c (cons a (cons v (cons w parts))))) body quiet none = refl

value_silent : (r : Rule) (parts : Trees) → is_body_rule r ≡ true → list_any is_value (front_roles r) ≡ false
    → faults_in r (count parts) 0 parts ≡ [] → value_word parts ≡ []
value_silent r nil body quiet none = refl
value_silent r (cons h nil) body quiet none = refl
value_silent r (cons h (cons c nil)) body quiet none = refl
value_silent r (cons h (cons c (cons a nil))) body quiet none = refl
value_silent r (cons h (cons c (cons a (cons v nil)))) body quiet none =
    let head = (none_in_both (faults_at (place_at r 4 0) h) _ none).0 in
    let refused = others_refuse is_value 4 is_heads r (value_begins r) body quiet in
    cond-false (is_text "is" h) (word_of v) [] (refuted (place_at r 4 0) "is" h head refused.0)
value_silent r (cons h (cons c (cons a (cons v (cons w parts))))) body quiet none = refl

map_silent : (r : Rule) (parts : Trees) → is_body_rule r ≡ true → list_any is_map (front_roles r) ≡ false
    → faults_in r (count parts) 0 parts ≡ [] → map_word parts ≡ []
map_silent r nil body quiet none = refl
map_silent r (cons h nil) body quiet none = refl
map_silent r (cons h (cons c nil)) body quiet none = refl
map_silent r (cons h (cons c (cons a nil))) body quiet none = refl
map_silent r (cons h (cons c (cons u (cons m nil)))) body quiet none =
    let head = (none_in_both (faults_at (place_at r 4 0) h) _ none).0 in
    let refused = others_refuse is_map 4 map_heads r (map_begins r) body quiet in
    cond-false (is_measure h) (word_of m) []
    (or_from _ _
    (or_from _ _
    (or_from _ _ (refuted (place_at r 4 0) "max" h head refused.0) (refuted (place_at r 4 0) "min" h head refused.1.0))
    (refuted (place_at r 4 0) "sum" h head refused.1.1.0))
    (refuted (place_at r 4 0) "points" h head refused.1.1.1.0))
map_silent r (cons h (cons c (cons a (cons v (cons w parts))))) body quiet none = refl

-- a word, something and a name; a word, something, another atom and a name
abbrev three_of : Keyword → Tree → ℕ → ℕ → List ℕ → ℕ → ℕ → Trees
three_of k c from to bytes from' to' = cons (word (text_of k) from to) (cons c (cons (word bytes from' to') nil))

abbrev four_of : Keyword → Tree → ℕ → ℕ → List ℕ → ℕ → ℕ → List ℕ → ℕ → ℕ → Trees
four_of k c from to bytes from' to' bytes' from'' to'' =
    cons (word (text_of k) from to) (cons c (cons (word bytes from' to') (cons (word bytes' from'' to'') nil)))

-- a form that is so
three_words : (P : Trees → Type 0) (r : Rule) (k : Keyword) (parts : Trees) → place_at r 3 0 ≡ Some (symbol.Word k)
    → place_at r 3 2 ≡ Some symbol.Name → (count parts == 3) ≡ true → faults_in r (count parts) 0 parts ≡ []
    → ((c : Tree) (from to : ℕ) (bytes : List ℕ) (from' to' : ℕ) → P (three_of k c from to bytes from' to')) → P parts
three_words P r k parts first third fit none each =
    three_only (λ parts. faults_in r (count parts) 0 parts ≡ [] → P parts) parts fit
    (λ h c a none.
    let apart = none_in_both (faults_at (place_at r 3 0) h) _ none in
    let later = none_in_both (faults_at (place_at r 3 1) c) _ apart.1 in
    let last = none_in_both (faults_at (place_at r 3 2) a) [] later.1 in
    fixed_only k (λ h. P (cons h (cons c (cons a nil)))) h (subst (λ o. faults_at o h ≡ []) first apart.0)
    (λ from to. atom_only symbol.Name (λ a. P (cons (word (text_of k) from to) (cons c (cons a nil)))) a refl
    (subst (λ o. faults_at o a ≡ []) third last.0) (λ bytes from' to' is. each c from to bytes from' to')))
    none

four_words : (P : Trees → Type 0) (r : Rule) (k : Keyword) (p : Symbol) (parts : Trees) → place_at r 4 0 ≡ Some (symbol.Word k)
    → place_at r 4 2 ≡ Some p → forms_of p ≡ [] → place_at r 4 3 ≡ Some symbol.Name → (count parts == 4) ≡ true
    → faults_in r (count parts) 0 parts ≡ []
    → ((c : Tree) (from to : ℕ) (bytes : List ℕ) (from' to' : ℕ) (bytes' : List ℕ) (from'' to'' : ℕ)
    → P (four_of k c from to bytes from' to' bytes' from'' to''))
    → P parts
four_words P r k p parts first third listless fourth fit none each =
    four_only (λ parts. faults_in r (count parts) 0 parts ≡ [] → P parts) parts fit
    (λ h c a v none.
    let apart = none_in_both (faults_at (place_at r 4 0) h) _ none in
    let later = none_in_both (faults_at (place_at r 4 1) c) _ apart.1 in
    let behind = none_in_both (faults_at (place_at r 4 2) a) _ later.1 in
    let last = none_in_both (faults_at (place_at r 4 3) v) [] behind.1 in
    fixed_only k (λ h. P (cons h (cons c (cons a (cons v nil))))) h (subst (λ o. faults_at o h ≡ []) first apart.0)
    (λ from to. atom_only p (λ a. P (cons (word (text_of k) from to) (cons c (cons a (cons v nil))))) a listless
    (subst (λ o. faults_at o a ≡ []) third behind.0)
    (λ bytes from' to' is.
    atom_only symbol.Name (λ v. P (cons (word (text_of k) from to) (cons c (cons (word bytes from' to') (cons v nil))))) v refl
    (subst (λ o. faults_at o v ≡ []) fourth last.0)
    (λ bytes' from'' to'' is'. each c from to bytes from' to' bytes' from'' to''))))
    none

-- what a form with such a role mentions is what its one atom in that role is
abbrev Speaks : (Trees → List (List ℕ)) → (Role → Bool) → Standing → Rule → Trees → Type 0
Speaks own takes at r parts = in_row own (used_in takes) at r parts 0 parts ≡ all_gathered own parts ++ own parts

-- what is gathered from a part that gives nothing itself, and then one word
then_one : (own : Trees → List (List ℕ)) (c : Tree) (quiet : List (List ℕ)) (bytes : List ℕ) → quiet ≡ []
    → (gathered own c ++ quiet) ++ bytes ∷ [] ≡ (gathered own c ++ []) ++ bytes ∷ []
then_one own c quiet bytes is = ap (λ l. (gathered own c ++ l) ++ bytes ∷ []) is

attr_spoken : (at : Standing) (r : Rule) (parts : Trees) → list_any is_attribute (front_roles r) ≡ true
    → fits (count parts) r ≡ true → faults_in r (count parts) 0 parts ≡ [] → Speaks attr_word is_attribute at r parts
attr_spoken at rule.AttributeOf parts some fit none =
    three_words (Speaks attr_word is_attribute at rule.AttributeOf) rule.AttributeOf keyword.Attr parts refl refl fit none
    (λ c from to bytes from' to'.
    then_one attr_word c _ bytes (quiet_atom attr_word is_attribute at rule.AttributeOf
    (three_of keyword.Attr c from to bytes from' to') 1 c refl))
attr_spoken at rule.Partition parts some fit none =
    three_words (Speaks attr_word is_attribute at rule.Partition) rule.Partition keyword.Partition parts refl refl fit none
    (λ c from to bytes from' to'.
    then_one attr_word c _ bytes (quiet_atom attr_word is_attribute at rule.Partition
    (three_of keyword.Partition c from to bytes from' to') 1 c refl))
attr_spoken at rule.Is parts some fit none =
    four_words (Speaks attr_word is_attribute at rule.Is) rule.Is keyword.Is symbol.Name parts refl refl refl refl fit none
    (λ c from to bytes from' to' bytes' from'' to''.
    then_one attr_word c _ bytes (quiet_atom attr_word is_attribute at rule.Is
    (four_of keyword.Is c from to bytes from' to' bytes' from'' to'')
    1 c refl))
attr_spoken at r parts some fit none = absurd cc

value_spoken : (at : Standing) (r : Rule) (parts : Trees) → list_any is_value (front_roles r) ≡ true
    → fits (count parts) r ≡ true → faults_in r (count parts) 0 parts ≡ [] → Speaks value_word is_value at r parts
value_spoken at rule.Is parts some fit none =
    four_words (Speaks value_word is_value at rule.Is) rule.Is keyword.Is symbol.Name parts refl refl refl refl fit none
    (λ c from to bytes from' to' bytes' from'' to''.
    then_one value_word c _ bytes' (quiet_atom value_word is_value at rule.Is
    (four_of keyword.Is c from to bytes from' to' bytes' from'' to'')
    1 c refl))
value_spoken at r parts some fit none = absurd cc

map_spoken : (at : Standing) (r : Rule) (parts : Trees) → list_any is_map (front_roles r) ≡ true
    → fits (count parts) r ≡ true → faults_in r (count parts) 0 parts ≡ [] → Speaks map_word is_map at r parts
map_spoken at rule.MaxCard parts some fit none =
    four_words (Speaks map_word is_map at rule.MaxCard) rule.MaxCard keyword.Max (symbol.Word keyword.Using) parts
    refl refl refl refl fit none
    (λ c from to bytes from' to' bytes' from'' to''.
    then_one map_word c _ bytes' (quiet_atom map_word is_map at rule.MaxCard
    (four_of keyword.Max c from to bytes from' to' bytes' from'' to'')
    1 c refl))
map_spoken at rule.MinCard parts some fit none =
    four_words (Speaks map_word is_map at rule.MinCard) rule.MinCard keyword.Min (symbol.Word keyword.Using) parts
    refl refl refl refl fit none
    (λ c from to bytes from' to' bytes' from'' to''.
    then_one map_word c _ bytes' (quiet_atom map_word is_map at rule.MinCard
    (four_of keyword.Min c from to bytes from' to' bytes' from'' to'')
    1 c refl))
map_spoken at rule.Sum parts some fit none =
    four_words (Speaks map_word is_map at rule.Sum) rule.Sum keyword.Sum (symbol.Word keyword.Using) parts
    refl refl refl refl fit none
    (λ c from to bytes from' to' bytes' from'' to''.
    then_one map_word c _ bytes' (quiet_atom map_word is_map at rule.Sum
    (four_of keyword.Sum c from to bytes from' to' bytes' from'' to'')
    1 c refl))
map_spoken at rule.PointsOf parts some fit none =
    four_words (Speaks map_word is_map at rule.PointsOf) rule.PointsOf keyword.Points (symbol.Word keyword.Using) parts
    refl refl refl refl fit none
    (λ c from to bytes from' to' bytes' from'' to''.
    then_one map_word c _ bytes' (quiet_atom map_word is_map at rule.PointsOf
    (four_of keyword.Points c from to bytes from' to' bytes' from'' to'')
    1 c refl))
map_spoken at r parts some fit none = absurd cc

-- attributes, values and point maps that are used are those that lists mention
pub attributes_tell : AllTell attr_word (used_in is_attribute)
attributes_tell at parts shape body from =
    used_tell attr_word is_attribute unused_attribute attr_silent attr_spoken at parts shape body from

pub values_tell : AllTell value_word (used_in is_value)
values_tell at parts shape body from = used_tell value_word is_value unused_value value_silent value_spoken at parts shape body
    from

pub maps_tell : AllTell map_word (used_in is_map)
maps_tell at parts shape body from = used_tell map_word is_map unused_map map_silent map_spoken at parts shape body from
