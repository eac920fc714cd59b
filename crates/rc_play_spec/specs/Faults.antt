-- The faults of a form that is to be a plan. The first round looks at shapes and numbers over the whole form, the second at what
-- the parts say together. A place is told by the faults of a form that stands there; a part whose shape is at fault isn't looked
-- into.
use Rattle.std.specs.Prelude.{ℕ, ◌+◌, ◌*◌, ◌-◌, Bool, false, ◌&&◌, ◌==◌, nat_le, if◌then◌else◌, List, [], ◌∷◌, ◌++◌, length, codes, bytes_eq, Option, Some, None}
use Rattle.rc_base.specs.Tree.{Tree, word, list, Trees, nil, cons, count, start_of}
use Rattle.rc_base.specs.Literal.{natural}
use Rattle.rc_base.specs.Limits.{largest_seed, most_rounds, most_matches, most_turns, most_turns_in_all}
use Rattle.rc_play_spec.specs.Limits.{largest_script_number}
use Rattle.rc_play_spec.specs.declared.plan_fault.PlanKind.{PlanKind}
use Rattle.rc_play_spec.specs.declared.plan_fault.PlanKind.TheVariants.{Shape, Number, Seats, Matches, Turns, TooLarge}
use Rattle.rc_play_spec.specs.declared.plan_fault.PlanFault.{PlanFault}

-- one fault of this kind here
abbrev pub fault : PlanKind → ℕ → List PlanFault
fault kind at = record { kind = kind; at = at } ∷ []

-- the same, where this doesn't hold
abbrev pub fault_unless : Bool → PlanKind → ℕ → List PlanFault
fault_unless holds kind at = if holds then [] else fault kind at

abbrev pub is_between : ℕ → ℕ → ℕ → Bool
is_between least most n = nat_le least n && nat_le n most

-- THE FIRST ROUND

-- the faults of a form, if it stands at this place
abbrev pub Place : Type 0
Place = Tree → List PlanFault

-- the tree is this word
abbrev pub is_word : List ℕ → Tree → Bool
is_word text (word bytes from to) = bytes_eq bytes text
is_word text (list parts from to) = false

-- the word spells one of these numbers
abbrev pub is_number_between : ℕ → ℕ → Option ℕ → Bool
is_number_between least most None = false
is_number_between least most (Some n) = is_between least most n

-- one of these numbers
abbrev pub number_between : ℕ → ℕ → Place
number_between least most (word bytes from to) = fault_unless (is_number_between least most (natural bytes)) Number from
number_between least most (list parts from to) = fault Shape from

abbrev pub any_number : Place
any_number = number_between 0 largest_seed

abbrev pub script_number : Place
script_number = number_between 0 largest_script_number

abbrev pub rounds : Place
rounds = number_between 1 most_rounds

-- the faults of parts at these places, one by one
abbrev pub in_turn : List Place → Trees → List PlanFault
in_turn [] parts = []
in_turn (place ∷ places) nil = []
in_turn (place ∷ places) (cons part parts) = place part ++ in_turn places parts

-- as many parts as places; else the list, which begins here, is at fault
abbrev pub row : List Place → ℕ → Trees → List PlanFault
row places from parts = if count parts == length places then in_turn places parts else fault Shape from

-- any number of parts at one place
abbrev pub each : Place → Trees → List PlanFault
each place nil = []
each place (cons part parts) = place part ++ each place parts

-- one part at least
abbrev pub some : Place → ℕ → Trees → List PlanFault
some place from nil = fault Shape from
some place from (cons part parts) = each place (cons part parts)

-- a list that begins with this word and then has such parts
abbrev pub headed : List ℕ → (ℕ → Trees → List PlanFault) → Place
headed text behind (word bytes from to) = fault Shape from
headed text behind (list nil from to) = fault Shape from
headed text behind (list (cons head parts) from to) = if is_word text head then behind from parts else fault Shape from

-- `(script n*)`, `(random k)` or `(rollout R k)`
abbrev pub strategy : Place
strategy (word bytes from to) = fault Shape from
strategy (list nil from to) = fault Shape from
strategy (list (cons head parts) from to) =
    if is_word (codes "script") head then each script_number parts
    else if is_word (codes "random") head then row (any_number ∷ []) from parts
    else if is_word (codes "rollout") head then row (rounds ∷ any_number ∷ []) from parts
    else fault Shape from

-- `(deal seat)`, or where no other list stands beside it `(from deal seat count)`
abbrev pub match : Bool → Place
match alone (word bytes from to) = fault Shape from
match alone (list nil from to) = fault Shape from
match alone (list (cons head parts) from to) =
    if is_word (codes "from") head
    then (if alone then row (any_number ∷ any_number ∷ any_number ∷ []) from parts else fault Shape from)
    else row (any_number ∷ any_number ∷ []) from (cons head parts)

-- how many of the parts are lists
abbrev pub lists_among : Trees → ℕ
lists_among nil = 0
lists_among (cons (word bytes from to) parts) = lists_among parts
lists_among (cons (list inner from to) parts) = lists_among parts + 1

-- one match at least
abbrev pub match_list : ℕ → Trees → List PlanFault
match_list from parts = some (match (nat_le (lists_among parts) 1)) from parts

abbrev pub seats : Place
seats = headed (codes "seats") (some strategy)

abbrev pub matches : Place
matches = headed (codes "matches") match_list

abbrev pub turns : Place
turns = headed (codes "turns") (row (any_number ∷ []))

-- all faults of the first round, in the order of the text
abbrev pub first_round : Place
first_round = headed (codes "plan") (row (seats ∷ matches ∷ turns ∷ []))

-- THE SECOND ROUND, where the first finds nothing

-- the number that stands at a number's place
abbrev pub spelled : Option ℕ → ℕ
spelled None = 0
spelled (Some n) = n

abbrev pub number_in : Tree → ℕ
number_in (word bytes from to) = spelled (natural bytes)
number_in (list parts from to) = 0

-- there are as many strategies as players
abbrev pub seat_faults : ℕ → Tree → List PlanFault
seat_faults players (list (cons head strategies) from to) = fault_unless (count strategies == players) Seats from
seat_faults players form = []

-- so many matches can be counted from a number on
abbrev pub can_count : ℕ → ℕ → Bool
can_count first count = nat_le (first + count - 1) largest_seed

-- a `from` counts one match at least, 4,096 at most, and stays within the numbers
abbrev pub is_countable : ℕ → ℕ → ℕ → Bool
is_countable deal seat count = is_between 1 most_matches count && can_count deal count && can_count seat count

abbrev pub from_faults : Tree → List PlanFault
from_faults (list (cons head (cons deal (cons seat (cons count nil)))) from to) =
    fault_unless (is_countable (number_in deal) (number_in seat) (number_in count)) Matches from
from_faults form = []

abbrev pub match_faults : Tree → List PlanFault
match_faults (list (cons head parts) from to) = each from_faults parts
match_faults form = []

abbrev pub turn_faults : Tree → List PlanFault
turn_faults (list (cons head (cons limit nil)) from to) =
    fault_unless (is_between 1 most_turns (number_in limit)) Turns (start_of limit)
turn_faults form = []

-- how many matches a part of `matches` says: one, or as many as a `from` counts
abbrev pub matches_said : Tree → ℕ
matches_said (list (cons head (cons deal (cons seat (cons count nil)))) from to) = number_in count
matches_said form = 1

abbrev pub all_matches_said : Trees → ℕ
all_matches_said nil = 0
all_matches_said (cons part parts) = matches_said part + all_matches_said parts

-- how many parts and how many matches `matches` has, and the number of turns
abbrev pub match_parts : Tree → Trees
match_parts (list (cons head parts) from to) = parts
match_parts form = nil

abbrev pub turn_limit : Tree → ℕ
turn_limit (list (cons head (cons limit nil)) from to) = number_in limit
turn_limit form = 0

-- not too many matches are listed, and all their turns are not too many
abbrev pub is_small : Trees → ℕ → Bool
is_small parts turns = nat_le (count parts) most_matches && nat_le (all_matches_said parts * turns) most_turns_in_all

-- all faults of the second round, in the order in which they are looked for
abbrev pub second_round : ℕ → Tree → List PlanFault
second_round players (list (cons head (cons seats (cons matches (cons turns nil)))) from to) =
    seat_faults players seats
    ++ match_faults matches
    ++ turn_faults turns
    ++ fault_unless (is_small (match_parts matches) (turn_limit turns)) TooLarge from
second_round players form = []

-- all faults of a form that is to be a plan for so many players
abbrev pub plan_faults : ℕ → Tree → List PlanFault
plan_faults players form = first_round form ++ second_round players form
