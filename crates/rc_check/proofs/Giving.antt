-- The parts behind the setup give nothing, so they need not be learnt.
use Rattle.std.proofs.Common.{◌≡◌, ℕ, zero, suc, ◌+◌, ◌==◌, Bool, true, false, not, ◌&&◌, cond, List, [], ◌∷◌, Option, Some, None, option_map, slice_get, slice_index_or, refl, sym, ap, ◌∙◌}
use Rattle.std.specs.List.{list_all, find}
use Rattle.std.specs.Option.{IfSome}
use Rattle.std.proofs.lemmas.Bool.{and_parts, false≢true}
use Rattle.rc_base.specs.Tree.{Tree, Trees, word, list, nil, cons}
use Rattle.rc_check.specs.Grammar.{forms_of, front_of}
use Rattle.rc_check.specs.Faults.{rule_of, or_else, place_at, or_behind, behind_front, begins, is_told, second_word, told_rule, plain_rule, count}
use Rattle.rc_check.specs.declared.grammar.Symbol.{Symbol}
use Rattle.rc_check.specs.declared.grammar.Symbol.TheVariants as symbol
use Rattle.rc_check.specs.declared.grammar.Rule.{Rule}
use Rattle.rc_check.specs.declared.grammar.Rule.TheVariants as rule
use Rattle.rc_check.specs.Giving.{gives_nothing, form_gives_nothing, is_given}
use Rattle.rc_check.specs.SecondParts.{Role, no_role, used_attribute, used_value, used_map, given_value, deck_location, card_location, reference_location, second_side, front_roles, role_in, Standing, Part, standing_in, with_form, parts_at, parts_in}
use Rattle.rc_check.specs.Summary.{Whole, with_value, know_form, know_all}
use Rattle.rc_check.proofs.Learned.{standing_at, nowhere}
use Rattle.rc_check.proofs.Walks.{know_all-append}

-- where all do, so does the one in this place, and the one that is found
got : {X : Type 0} (p : X → Bool) (xs : List X) (index : ℕ) → list_all p xs ≡ true → IfSome (slice_get xs index) (λ x. p x ≡ true)
got p [] index all = tt
got p (x ∷ xs) zero all = (and_parts _ _ all).0
got p (x ∷ xs) (suc index) all = got p xs index (and_parts _ _ all).1

picked : {X : Type 0} (p : X → Bool) (b : Bool) (x : X) (rest : Option X) → p x ≡ true → IfSome rest (λ y. p y ≡ true)
    → IfSome (cond b (Some x) rest) (λ y. p y ≡ true)
picked p true x rest is later = is
picked p false x rest is later = later

found : {X : Type 0} (p test : X → Bool) (xs : List X) → list_all p xs ≡ true → IfSome (find test xs) (λ x. p x ≡ true)
found p test [] all = tt
found p test (x ∷ xs) all =
    let both = and_parts _ _ all in picked p (test x) x (find test xs) both.0 (found p test xs both.1)

either : (first later : Option Rule) → IfSome first (λ rule. form_gives_nothing rule ≡ true)
    → IfSome later (λ rule. form_gives_nothing rule ≡ true) → IfSome (or_else first later) (λ rule. form_gives_nothing rule ≡ true)
either (Some rule) later is other = is
either None later is other = other

-- the forms of a place that gives nothing
forms : (at : Symbol) → gives_nothing at ≡ true → list_all form_gives_nothing (forms_of at) ≡ true
forms (symbol.Word keyword) is = refl
forms symbol.Kind is = refl
forms symbol.Best is = refl
forms symbol.Name is = refl
forms symbol.Variable is = refl
forms symbol.PlayerCount is = refl
forms symbol.Member is = refl
forms symbol.Points is = refl
forms symbol.Sheet is = absurd (false≢true is)
forms symbol.Setup is = absurd (false≢true is)
forms symbol.Line is = absurd (false≢true is)
forms symbol.Team is = absurd (false≢true is)
forms symbol.Deck is = absurd (false≢true is)
forms symbol.Group is = absurd (false≢true is)
forms symbol.Branches is = absurd (false≢true is)
forms symbol.Branch is = absurd (false≢true is)
forms symbol.Entries is = absurd (false≢true is)
forms symbol.Entry is = absurd (false≢true is)
forms symbol.Values is = absurd (false≢true is)
forms symbol.Alternative is = refl
forms place is = refl

form_at : (at : Symbol) (parts : Trees) → gives_nothing at ≡ true → IfSome (rule_of at parts) (λ rule. form_gives_nothing rule ≡ true)
form_at at nil is = tt
form_at at (cons head parts) is =
    either (told_rule at head parts) (plain_rule at head)
    (found form_gives_nothing (λ rule. begins head rule && is_told (second_word rule) parts) (forms_of at) (forms at is))
    (found form_gives_nothing _ (forms_of at) (forms at is))

-- what a form that gives nothing keeps
record Quiet (form : Rule) : Type 0 where
  front : list_all gives_nothing (front_of form) ≡ true
  more : (last : Bool) → IfSome (behind_front form last) (λ at. gives_nothing at ≡ true)
  same : (known : Whole) (parts : Trees) → know_form known form parts ≡ known
  role : (role : Role) (index : ℕ) → is_given role ≡ false → is_given (role_in role form index) ≡ false

ungiven : (role : Role) → not (is_given role) ≡ true → is_given role ≡ false
ungiven no_role is = refl
ungiven used_attribute is = refl
ungiven used_value is = refl
ungiven used_map is = refl
ungiven given_value is = absurd (false≢true is)
ungiven reference_location is = refl
ungiven role is = refl

front_role : (roles : List Role) (index : ℕ) → list_all (λ role. not (is_given role)) roles ≡ true
    → is_given (slice_index_or roles index no_role) ≡ false
front_role [] index all = refl
front_role (role ∷ roles) zero all = ungiven role (and_parts _ _ all).0
front_role (role ∷ roles) (suc index) all = front_role roles index (and_parts _ _ all).1

quiet : (form : Rule) → form_gives_nothing form ≡ true → Quiet form
quiet rule.Game is = absurd (false≢true is)
quiet rule.Setup is = absurd (false≢true is)
quiet rule.CreatePlayers is = absurd (false≢true is)
quiet rule.CreateTeams is = absurd (false≢true is)
quiet rule.CreateDeck is = absurd (false≢true is)
quiet rule.PutPoints is = absurd (false≢true is)
quiet rule.Team is = absurd (false≢true is)
quiet rule.Deck is = absurd (false≢true is)
quiet rule.Group is = absurd (false≢true is)
quiet rule.Branches is = absurd (false≢true is)
quiet rule.Branch is = absurd (false≢true is)
quiet rule.Entries is = absurd (false≢true is)
quiet rule.Entry is = absurd (false≢true is)
quiet rule.Values is = absurd (false≢true is)
quiet rule.Scoring is = record { front = refl; more = λ last. tt; same = λ known parts. refl; role = λ role index is. front_role (front_roles rule.Scoring) index refl }
quiet rule.Do is = record { front = refl; more = λ last. refl; same = λ known parts. refl; role = λ role index is. front_role (front_roles rule.Do) index refl }
quiet rule.PlayerStage is = record { front = refl; more = λ last. refl; same = λ known parts. refl; role = λ role index is. front_role (front_roles rule.PlayerStage) index refl }
quiet rule.TeamStage is = record { front = refl; more = λ last. refl; same = λ known parts. refl; role = λ role index is. front_role (front_roles rule.TeamStage) index refl }
quiet rule.Choice is = record { front = refl; more = λ last. refl; same = λ known parts. refl; role = λ role index is. front_role (front_roles rule.Choice) index refl }
quiet rule.End is = record { front = refl; more = λ last. tt; same = λ known parts. refl; role = λ role index is. front_role (front_roles rule.End) index refl }
quiet rule.If is = record { front = refl; more = λ last. refl; same = λ known parts. refl; role = λ role index is. front_role (front_roles rule.If) index refl }
quiet rule.AnyOf is = record { front = refl; more = λ last. tt; same = λ known parts. refl; role = λ role index is. front_role (front_roles rule.AnyOf) index refl }
quiet rule.Move is = record { front = refl; more = λ last. tt; same = λ known parts. refl; role = λ role index is. front_role (front_roles rule.Move) index refl }
quiet rule.MoveAll is = record { front = refl; more = λ last. tt; same = λ known parts. refl; role = λ role index is. front_role (front_roles rule.MoveAll) index refl }
quiet rule.Remember is = record { front = refl; more = λ last. tt; same = λ known parts. refl; role = λ role index is. front_role (front_roles rule.Remember) index refl }
quiet rule.Forget is = record { front = refl; more = λ last. tt; same = λ known parts. refl; role = λ role index is. front_role (front_roles rule.Forget) index refl }
quiet rule.Shuffle is = record { front = refl; more = λ last. tt; same = λ known parts. refl; role = λ role index is. front_role (front_roles rule.Shuffle) index refl }
quiet rule.Set is = record { front = refl; more = λ last. tt; same = λ known parts. refl; role = λ role index is. front_role (front_roles rule.Set) index refl }
quiet rule.Increase is = record { front = refl; more = λ last. tt; same = λ known parts. refl; role = λ role index is. front_role (front_roles rule.Increase) index refl }
quiet rule.Decrease is = record { front = refl; more = λ last. tt; same = λ known parts. refl; role = λ role index is. front_role (front_roles rule.Decrease) index refl }
quiet rule.Repeat is = record { front = refl; more = λ last. refl; same = λ known parts. refl; role = λ role index is. front_role (front_roles rule.Repeat) index refl }
quiet rule.Each is = record { front = refl; more = λ last. refl; same = λ known parts. refl; role = λ role index is. front_role (front_roles rule.Each) index refl }
quiet rule.Next is = record { front = refl; more = λ last. tt; same = λ known parts. refl; role = λ role index is. front_role (front_roles rule.Next) index refl }
quiet rule.Reverse is = record { front = refl; more = λ last. tt; same = λ known parts. refl; role = λ role index is. front_role (front_roles rule.Reverse) index refl }
quiet rule.Peek is = record { front = refl; more = λ last. tt; same = λ known parts. refl; role = λ role index is. front_role (front_roles rule.Peek) index refl }
quiet rule.TopOf is = record { front = refl; more = λ last. tt; same = λ known parts. refl; role = λ role index is. is }
quiet rule.BottomOf is = record { front = refl; more = λ last. tt; same = λ known parts. refl; role = λ role index is. is }
quiet rule.Location is = record { front = refl; more = λ last. tt; same = λ known parts. refl; role = λ role index is. front_role (front_roles rule.Location) index refl }
quiet rule.Counter is = record { front = refl; more = λ last. tt; same = λ known parts. refl; role = λ role index is. front_role (front_roles rule.Counter) index refl }
quiet rule.CurrentPlayer is = record { front = refl; more = λ last. tt; same = λ known parts. refl; role = λ role index is. front_role (front_roles rule.CurrentPlayer) index refl }
quiet rule.CurrentTeam is = record { front = refl; more = λ last. tt; same = λ known parts. refl; role = λ role index is. front_role (front_roles rule.CurrentTeam) index refl }
quiet rule.TeamOf is = record { front = refl; more = λ last. tt; same = λ known parts. refl; role = λ role index is. front_role (front_roles rule.TeamOf) index refl }
quiet rule.TopCard is = record { front = refl; more = λ last. tt; same = λ known parts. refl; role = λ role index is. front_role (front_roles rule.TopCard) index refl }
quiet rule.BottomCard is = record { front = refl; more = λ last. tt; same = λ known parts. refl; role = λ role index is. front_role (front_roles rule.BottomCard) index refl }
quiet rule.MaxCard is = record { front = refl; more = λ last. tt; same = λ known parts. refl; role = λ role index is. front_role (front_roles rule.MaxCard) index refl }
quiet rule.MinCard is = record { front = refl; more = λ last. tt; same = λ known parts. refl; role = λ role index is. front_role (front_roles rule.MinCard) index refl }
quiet rule.Filter is = record { front = refl; more = λ last. tt; same = λ known parts. refl; role = λ role index is. front_role (front_roles rule.Filter) index refl }
quiet rule.Union is = record { front = refl; more = λ last. refl; same = λ known parts. refl; role = λ role index is. front_role (front_roles rule.Union) index refl }
quiet rule.Known is = record { front = refl; more = λ last. tt; same = λ known parts. refl; role = λ role index is. front_role (front_roles rule.Known) index refl }
quiet rule.Partition is = record { front = refl; more = λ last. tt; same = λ known parts. refl; role = λ role index is. front_role (front_roles rule.Partition) index refl }
quiet rule.Size is = record { front = refl; more = λ last. tt; same = λ known parts. refl; role = λ role index is. front_role (front_roles rule.Size) index refl }
quiet rule.Sum is = record { front = refl; more = λ last. tt; same = λ known parts. refl; role = λ role index is. front_role (front_roles rule.Sum) index refl }
quiet rule.PointsOf is = record { front = refl; more = λ last. tt; same = λ known parts. refl; role = λ role index is. front_role (front_roles rule.PointsOf) index refl }
quiet rule.Plus is = record { front = refl; more = λ last. tt; same = λ known parts. refl; role = λ role index is. front_role (front_roles rule.Plus) index refl }
quiet rule.Minus is = record { front = refl; more = λ last. tt; same = λ known parts. refl; role = λ role index is. front_role (front_roles rule.Minus) index refl }
quiet rule.Times is = record { front = refl; more = λ last. tt; same = λ known parts. refl; role = λ role index is. front_role (front_roles rule.Times) index refl }
quiet rule.Equal is = record { front = refl; more = λ last. tt; same = λ known parts. refl; role = λ role index is. front_role (front_roles rule.Equal) index refl }
quiet rule.NotEqual is = record { front = refl; more = λ last. tt; same = λ known parts. refl; role = λ role index is. front_role (front_roles rule.NotEqual) index refl }
quiet rule.Less is = record { front = refl; more = λ last. tt; same = λ known parts. refl; role = λ role index is. front_role (front_roles rule.Less) index refl }
quiet rule.LessOrEqual is = record { front = refl; more = λ last. tt; same = λ known parts. refl; role = λ role index is. front_role (front_roles rule.LessOrEqual) index refl }
quiet rule.More is = record { front = refl; more = λ last. tt; same = λ known parts. refl; role = λ role index is. front_role (front_roles rule.More) index refl }
quiet rule.MoreOrEqual is = record { front = refl; more = λ last. tt; same = λ known parts. refl; role = λ role index is. front_role (front_roles rule.MoreOrEqual) index refl }
quiet rule.Is is = record { front = refl; more = λ last. tt; same = λ known parts. refl; role = λ role index is. front_role (front_roles rule.Is) index refl }
quiet rule.And is = record { front = refl; more = λ last. refl; same = λ known parts. refl; role = λ role index is. front_role (front_roles rule.And) index refl }
quiet rule.Or is = record { front = refl; more = λ last. refl; same = λ known parts. refl; role = λ role index is. front_role (front_roles rule.Or) index refl }
quiet rule.Not is = record { front = refl; more = λ last. tt; same = λ known parts. refl; role = λ role index is. front_role (front_roles rule.Not) index refl }
quiet rule.ForAll is = record { front = refl; more = λ last. tt; same = λ known parts. refl; role = λ role index is. front_role (front_roles rule.ForAll) index refl }
quiet rule.ForAny is = record { front = refl; more = λ last. tt; same = λ known parts. refl; role = λ role index is. front_role (front_roles rule.ForAny) index refl }
quiet rule.AttributeOf is = record { front = refl; more = λ last. tt; same = λ known parts. refl; role = λ role index is. front_role (front_roles rule.AttributeOf) index refl }

part_place : (front : Option Symbol) (behind : Option Symbol) → IfSome front (λ at. gives_nothing at ≡ true)
    → IfSome behind (λ at. gives_nothing at ≡ true) → IfSome (or_behind front behind) (λ at. gives_nothing at ≡ true)
part_place (Some at) behind is other = is
part_place None behind is other = other

place_in : (form : Rule) (n index : ℕ) → Quiet form → IfSome (place_at form n index) (λ at. gives_nothing at ≡ true)
place_in form n index keeps =
    part_place (slice_get (front_of form) index) (behind_front form (index + 1 == n)) (got gives_nothing (front_of form) index keeps.front) (keeps.more (index + 1 == n))

-- an atom that gives no value
no_value : (role : Role) (bytes : List ℕ) (words : List (List ℕ)) → is_given role ≡ false → with_value role bytes words ≡ words
no_value no_role bytes words is = refl
no_value used_attribute bytes words is = refl
no_value used_value bytes words is = refl
no_value used_map bytes words is = refl
no_value given_value bytes words is = absurd (false≢true (sym is))
no_value reference_location bytes words is = refl
no_value role bytes words is = refl

-- the parts of a form, where it is one
of_form : (known : Whole) (at : Standing) (parts : Trees) (from : ℕ) (inner : Rule → List Part) (found : Option Rule)
    → IfSome found (λ form. form_gives_nothing form ≡ true)
    → ((form : Rule) → Quiet form → know_all known (inner form) ≡ known)
    → know_all known (with_form at parts from inner found) ≡ known
of_form known at parts from inner None is later = refl
of_form known at parts from inner (Some form) is later =
    let is_quiet = quiet form is in
    ap (λ whole. know_all whole (inner form)) (is_quiet.same known parts) ∙ later form is_quiet

-- a part, where nothing is given at the place where it stands, if anywhere
part_by : (known : Whole) (at : Standing) (form : Rule) (all : Trees) (index : ℕ) (tree : Tree) (found : Option Symbol)
    → IfSome found (λ there. gives_nothing there ≡ true)
    → ((there : Symbol) → gives_nothing there ≡ true → know_all known (parts_at (Some (standing_at at form all index there)) tree) ≡ known)
    → know_all known (parts_at (option_map (standing_at at form all index) found) tree) ≡ known
part_by known at form all index tree None is there = ap (know_all known) (nowhere tree)
part_by known at form all index tree (Some place) is there = there place is

mutual
  pub nothing_at : (tree : Tree) (known : Whole) (at : Standing) → gives_nothing at.place ≡ true → is_given at.role ≡ false
      → know_all known (parts_at (Some at) tree) ≡ known
  nothing_at (word bytes from to) known at is other =
      ap (λ values. record known { values = values }) (no_value at.role bytes known.values other)
  nothing_at (list parts from to) known at is other =
      of_form known at parts from (λ form. parts_in at form parts 0 parts) (rule_of at.place parts) (form_at at.place parts is)
      (λ form keeps. nothing_in parts known at form parts 0 keeps other)

  nothing_in : (trees : Trees) (known : Whole) (at : Standing) (form : Rule) (all : Trees) (index : ℕ) → Quiet form
      → is_given at.role ≡ false → know_all known (parts_in at form all index trees) ≡ known
  nothing_in nil known at form all index keeps other = refl
  nothing_in (cons tree trees) known at form all index keeps other =
      let later = parts_in at form all (index + 1) trees in
      know_all-append known (parts_at (standing_in at form all index) tree) later
      ∙ ap (λ whole. know_all whole later)
      (part_by known at form all index tree (place_at form (count all) index) (place_in form (count all) index keeps)
      (λ there is. nothing_at tree known (standing_at at form all index there) is (keeps.role at.role index other)))
      ∙ nothing_in trees known at form all (index + 1) keeps other
