-- The faults of a form that is placed stand in the order in which they are told.
use Rattle.std.proofs.Common.{◌≡◌, ℕ, ◌+◌, ◌<◌, ◌≤◌, Bool, true, false, cond, ◌||◌, ◌&&◌, ◌==◌, List, [], ◌∷◌, ◌++◌, ◌⊎◌, inl, inr, Some, refl, sym, ap, subst, ◌∙◌, arith}
use Rattle.std.specs.Prelude.{codes, IsTrue, nat_le, nat_lt}
use Rattle.std.specs.List.{All}
use Rattle.std.proofs.lemmas.Bool.{eq-eqb, le-leb, and_from, or_right}
use Rattle.std.proofs.lemmas.List.{append_assoc}
use Rattle.std.proofs.lemmas.List.Elements.{All-nil, All-cons}
use Rattle.rc_base.specs.Literal.{natural}
use Rattle.rc_base.specs.Placed.{starts, all_starts, Rise, IsPlaced}
use Rattle.rc_base.specs.Tree.{Tree, word, list, Trees, nil, cons, count, start_of}
use Rattle.rc_play_spec.specs.Faults.{Place, fault, fault_unless, is_word, is_number_between, is_between, number_between, any_number, script_number, rounds, in_turn, row, each, some, headed, strategy, match, match_list, lists_among, seats, matches, turns, first_round, seat_faults, from_faults, is_countable, number_in, match_faults, turn_faults, is_small, match_parts, turn_limit, second_round, plan_faults}
use Rattle.rc_play_spec.specs.PlanFault.{turn_of, rank_of, is_told_first, first, IsFirstOf}
use Rattle.rc_play_spec.specs.declared.plan_fault.PlanKind.{PlanKind}
use Rattle.rc_play_spec.specs.declared.plan_fault.PlanKind.TheVariants.{Shape, Number, Seats, Matches, Turns, TooLarge}
use Rattle.rc_play_spec.specs.declared.plan_fault.PlanFault.{PlanFault}

-- WHAT IS TOLD FIRST

pub by_turn : (fault other : PlanFault) → turn_of fault.kind < turn_of other.kind → is_told_first fault other ≡ true
by_turn fault other before = ap (λ b. b || (turn_of fault.kind == turn_of other.kind
    && (nat_lt fault.at other.at || (fault.at == other.at && nat_le (rank_of fault.kind) (rank_of other.kind))))) (le-leb _ _ before)

pub by_offset : (fault other : PlanFault) → turn_of fault.kind ≡ turn_of other.kind → fault.at < other.at → is_told_first fault other ≡ true
by_offset fault other same before =
    or_right (nat_lt (turn_of fault.kind) (turn_of other.kind)) _ (and_from _ _ (eq-eqb (turn_of fault.kind) (turn_of other.kind) same)
    (ap (λ b. b || (fault.at == other.at && nat_le (rank_of fault.kind) (rank_of other.kind))) (le-leb _ _ before)))

pub by_rank : (fault other : PlanFault) → turn_of fault.kind ≡ turn_of other.kind → fault.at ≡ other.at
    → rank_of fault.kind ≤ rank_of other.kind → is_told_first fault other ≡ true
by_rank fault other same here rank =
    or_right (nat_lt (turn_of fault.kind) (turn_of other.kind)) _ (and_from _ _ (eq-eqb (turn_of fault.kind) (turn_of other.kind) same)
    (or_right (nat_lt fault.at other.at) _ (and_from _ _ (eq-eqb fault.at other.at here) (le-leb _ _ rank))))

pub itself : (fault : PlanFault) → is_told_first fault fault ≡ true
itself fault =
    let same : rank_of fault.kind ≤ rank_of fault.kind = omega arith in
    or_right (nat_lt (turn_of fault.kind) (turn_of fault.kind)) _
    (and_from _ _ (eq-eqb (turn_of fault.kind) (turn_of fault.kind) refl)
    (or_right (nat_lt fault.at fault.at) _ (and_from _ _ (eq-eqb fault.at fault.at refl) (le-leb _ _ same))))

-- this holds of each
abbrev Each : (PlanFault → Type 0) → List PlanFault → Type 0
Each P [] = Unit {0}
Each P (fault ∷ faults) = P fault × Each P faults

each_of_both : (P : PlanFault → Type 0) (xs ys : List PlanFault) → Each P xs → Each P ys → Each P (xs ++ ys)
each_of_both P [] ys first second = second
each_of_both P (x ∷ xs) ys first second = (first.0, each_of_both P xs ys first.1 second)

each_then : (P Q : PlanFault → Type 0) (xs : List PlanFault) → ((x : PlanFault) → P x → Q x) → Each P xs → Each Q xs
each_then P Q [] then holds = tt
each_then P Q (x ∷ xs) then holds = (then x holds.0, each_then P Q xs then holds.1)

all_of : (P : PlanFault → Type 0) (xs : List PlanFault) → Each P xs → All P xs
all_of P [] holds = All-nil P
all_of P (x ∷ xs) holds = All-cons P x xs holds.0 (all_of P xs holds.1)

-- the first of these is told before all of them
abbrev Leads : List PlanFault → Type 0
Leads [] = Unit {0}
Leads (fault ∷ faults) = Each (λ other. is_told_first fault other ≡ true) (fault ∷ faults)

-- they are all looked for at this turn, or from it on
abbrev OfTurn : ℕ → List PlanFault → Type 0
OfTurn turn = Each (λ fault. turn_of fault.kind ≡ turn)

abbrev FromTurn : ℕ → List PlanFault → Type 0
FromTurn turn = Each (λ fault. turn ≤ turn_of fault.kind)

leads_both : (turn : ℕ) (xs ys : List PlanFault) → OfTurn turn xs → FromTurn (turn + 1) ys → Leads xs → Leads ys → Leads (xs ++ ys)
leads_both turn [] ys of from first second = second
leads_both turn (x ∷ xs) ys of from first second =
    each_of_both (λ other. is_told_first x other ≡ true) (x ∷ xs) ys first
    (each_then (λ fault. turn + 1 ≤ turn_of fault.kind) (λ other. is_told_first x other ≡ true) ys
    (λ other later. let now = of.0 in by_turn x other (omega (arith, now, later))) from)

-- FAULTS AT THE STARTS OF PARTS

-- Each fault begins where a part does, in the order of the parts, and they are all looked for at this turn.
abbrev Stand : ℕ → List PlanFault → List ℕ → Type 0
Stand turn [] starts = Unit {0}
Stand turn (fault ∷ faults) [] = ⊥
Stand turn (fault ∷ faults) (start ∷ starts) =
    ((fault.at ≡ start) × (turn_of fault.kind ≡ turn) × Stand turn faults starts) ⊎ Stand turn (fault ∷ faults) starts

stand_behind : (turn : ℕ) (faults : List PlanFault) (before starts : List ℕ) → Stand turn faults starts → Stand turn faults (before ++ starts)
stand_behind turn [] before starts stand = tt
stand_behind turn (fault ∷ faults) [] starts stand = stand
stand_behind turn (fault ∷ faults) (start ∷ before) starts stand = inr (stand_behind turn (fault ∷ faults) before starts stand)

stand_both : (turn : ℕ) (xs ys : List PlanFault) (before behind : List ℕ) → Stand turn xs before → Stand turn ys behind
    → Stand turn (xs ++ ys) (before ++ behind)
stand_both turn [] ys before behind first second = stand_behind turn ys before behind second
stand_both turn (x ∷ xs) ys [] behind first second = absurd first
stand_both turn (x ∷ xs) ys (start ∷ before) behind (inl here) second = inl (here.0, here.1, stand_both turn xs ys before behind here.2 second)
stand_both turn (x ∷ xs) ys (start ∷ before) behind (inr later) second = inr (stand_both turn (x ∷ xs) ys before behind later second)

-- where the starts rise, the faults do
stand_above : (turn : ℕ) (faults : List PlanFault) (starts : List ℕ) (low high : ℕ) → Stand turn faults starts → Rise low high starts
    → Each (λ fault. (low ≤ fault.at) × (turn_of fault.kind ≡ turn)) faults
stand_above turn [] starts low high stand rise = tt
stand_above turn (fault ∷ faults) [] low high stand rise = absurd stand
stand_above turn (fault ∷ faults) (start ∷ starts) low high (inl here) rise =
    let at = here.0 in
    let above = rise.0 in (
      (omega (arith, at, above), here.1),
      each_then (λ fault. (start + 1 ≤ fault.at) × (turn_of fault.kind ≡ turn)) (λ fault. (low ≤ fault.at) × (turn_of fault.kind ≡ turn)) faults
          (λ other is. let later = is.0 in (omega (arith, above, later), is.1)) (stand_above turn faults starts (start + 1) high here.2 rise.1),
    )
stand_above turn (fault ∷ faults) (start ∷ starts) low high (inr later) rise =
    let above = rise.0 in
    each_then (λ fault. (start + 1 ≤ fault.at) × (turn_of fault.kind ≡ turn)) (λ fault. (low ≤ fault.at) × (turn_of fault.kind ≡ turn)) (fault ∷ faults)
    (λ other is. let later = is.0 in (omega (arith, above, later), is.1)) (stand_above turn (fault ∷ faults) starts (start + 1) high later rise.1)

stand_leads : (turn : ℕ) (faults : List PlanFault) (starts : List ℕ) (low high : ℕ) → Stand turn faults starts → Rise low high starts → Leads faults
stand_leads turn [] starts low high stand rise = tt
stand_leads turn (fault ∷ faults) [] low high stand rise = absurd stand
stand_leads turn (fault ∷ faults) (start ∷ starts) low high (inl here) rise = (
  itself fault,
  each_then (λ other. (start + 1 ≤ other.at) × (turn_of other.kind ≡ turn)) (λ other. is_told_first fault other ≡ true) faults
      (λ other is. let at = here.0 in let later = is.0 in by_offset fault other (here.1 ∙ sym is.1) (omega (arith, at, later)))
      (stand_above turn faults starts (start + 1) high here.2 rise.1),
)
stand_leads turn (fault ∷ faults) (start ∷ starts) low high (inr later) rise = stand_leads turn (fault ∷ faults) starts (start + 1) high later rise.1

stand_turn : (turn : ℕ) (faults : List PlanFault) (starts : List ℕ) → Stand turn faults starts → OfTurn turn faults
stand_turn turn [] starts stand = tt
stand_turn turn (fault ∷ faults) [] stand = absurd stand
stand_turn turn (fault ∷ faults) (start ∷ starts) (inl here) = (here.1, stand_turn turn faults starts here.2)
stand_turn turn (fault ∷ faults) (start ∷ starts) (inr later) = stand_turn turn (fault ∷ faults) starts later

-- THE FIRST ROUND

-- the faults of a place stand at the parts of the form
abbrev InOrder : Place → Type 0
InOrder place = (form : Tree) → Stand 1 (place form) (starts form)

abbrev AllInOrder : List Place → Type 0
AllInOrder [] = Unit {0}
AllInOrder (place ∷ places) = InOrder place × AllInOrder places

-- the same of the parts of a list that begins here
abbrev PartsInOrder : (ℕ → Trees → List PlanFault) → Type 0
PartsInOrder behind = (from : ℕ) (parts : Trees) → Stand 1 (behind from parts) (from ∷ all_starts parts)

shape_here : (from : ℕ) (starts : List ℕ) → Stand 1 (fault Shape from) (from ∷ starts)
shape_here from starts = inl (refl, refl, tt)

number_here : (b : Bool) (from : ℕ) → Stand 1 (fault_unless b Number from) (from ∷ [])
number_here true from = tt
number_here false from = inl (refl, refl, tt)

number_in_order : (least most : ℕ) → InOrder (number_between least most)
number_in_order least most (word bytes from to) = number_here (is_number_between least most (natural bytes)) from
number_in_order least most (list parts from to) = shape_here from (all_starts parts)

in_turn_in_order : (places : List Place) → AllInOrder places → (parts : Trees) → Stand 1 (in_turn places parts) (all_starts parts)
in_turn_in_order [] all parts = tt
in_turn_in_order (place ∷ places) all nil = tt
in_turn_in_order (place ∷ places) all (cons part parts) =
    stand_both 1 (place part) (in_turn places parts) (starts part) (all_starts parts) (all.0 part) (in_turn_in_order places all.1 parts)

each_in_order : (place : Place) → InOrder place → (parts : Trees) → Stand 1 (each place parts) (all_starts parts)
each_in_order place ordered nil = tt
each_in_order place ordered (cons part parts) =
    stand_both 1 (place part) (each place parts) (starts part) (all_starts parts) (ordered part) (each_in_order place ordered parts)

test_in_order : (b : Bool) (xs : List PlanFault) (from : ℕ) (starts : List ℕ) → Stand 1 xs (from ∷ starts) → Stand 1 (cond b xs (fault Shape from)) (from ∷ starts)
test_in_order true xs from starts stand = stand
test_in_order false xs from starts stand = shape_here from starts

row_in_order : (places : List Place) → AllInOrder places → PartsInOrder (row places)
row_in_order places all from parts =
    test_in_order _ _ from (all_starts parts) (stand_behind 1 _ (from ∷ []) (all_starts parts) (in_turn_in_order places all parts))

some_in_order : (place : Place) → InOrder place → PartsInOrder (some place)
some_in_order place ordered from nil = shape_here from []
some_in_order place ordered from (cons part parts) =
    stand_behind 1 _ (from ∷ []) (all_starts (cons part parts)) (each_in_order place ordered (cons part parts))

-- what stands behind a head stands in the list
behind_head : (faults : List PlanFault) (head : Tree) (parts : Trees) (from : ℕ) → Stand 1 faults (from ∷ all_starts parts)
    → Stand 1 faults (from ∷ (starts head ++ all_starts parts))
behind_head [] head parts from stand = tt
behind_head (x ∷ faults) head parts from (inl here) = inl (here.0, here.1, stand_behind 1 faults (starts head) (all_starts parts) here.2)
behind_head (x ∷ faults) head parts from (inr later) = inr (stand_behind 1 (x ∷ faults) (starts head) (all_starts parts) later)

headed_in_order : (text : List ℕ) (behind : ℕ → Trees → List PlanFault) → PartsInOrder behind → InOrder (headed text behind)
headed_in_order text behind ordered (word bytes from to) = shape_here from []
headed_in_order text behind ordered (list nil from to) = shape_here from []
headed_in_order text behind ordered (list (cons head parts) from to) =
    test_in_order (is_word text head) (behind from parts) from (starts head ++ all_starts parts) (behind_head (behind from parts) head parts from (ordered from parts))

-- one of two
either_in_order : (b : Bool) (xs ys : List PlanFault) (starts : List ℕ) → Stand 1 xs starts → Stand 1 ys starts → Stand 1 (cond b xs ys) starts
either_in_order true xs ys starts first second = first
either_in_order false xs ys starts first second = second

any_in_order : InOrder any_number
any_in_order form = number_in_order 0 999999999999999999 form

strategy_in_order : InOrder strategy
strategy_in_order (word bytes from to) = shape_here from []
strategy_in_order (list nil from to) = shape_here from []
strategy_in_order (list (cons head parts) from to) =
    let here = from ∷ (starts head ++ all_starts parts) in
    let script = stand_behind 1 _ (from ∷ []) (all_starts parts) (each_in_order script_number (λ form. number_in_order 0 65535 form) parts) in
    let random = row_in_order (any_number ∷ []) (any_in_order, tt) from parts in
    let rollout = row_in_order (rounds ∷ any_number ∷ []) ((λ form. number_in_order 1 1000 form), (any_in_order, tt)) from parts in
    either_in_order (is_word (codes "script") head) _ _ here (behind_head _ head parts from script)
    (either_in_order (is_word (codes "random") head) _ _ here (behind_head _ head parts from random)
    (either_in_order (is_word (codes "rollout") head) _ _ here (behind_head _ head parts from rollout) (shape_here from (starts head ++ all_starts parts))))

match_in_order : (alone : Bool) → InOrder (match alone)
match_in_order alone (word bytes from to) = shape_here from []
match_in_order alone (list nil from to) = shape_here from []
match_in_order alone (list (cons head parts) from to) =
    let here = from ∷ (starts head ++ all_starts parts) in
    let counted = row_in_order (any_number ∷ any_number ∷ any_number ∷ []) (any_in_order, (any_in_order, (any_in_order, tt))) from parts in
    let listed = row_in_order (any_number ∷ any_number ∷ []) (any_in_order, (any_in_order, tt)) from (cons head parts) in
    either_in_order (is_word (codes "from") head) _ _ here
    (test_in_order alone _ from (starts head ++ all_starts parts) (behind_head _ head parts from counted)) listed

match_list_in_order : PartsInOrder match_list
match_list_in_order from parts = some_in_order (match (nat_le (lists_among parts) 1)) (match_in_order (nat_le (lists_among parts) 1)) from parts

first_in_order : InOrder first_round
first_in_order =
    headed_in_order (codes "plan") (row (seats ∷ matches ∷ turns ∷ []))
    (row_in_order (seats ∷ matches ∷ turns ∷ []) (
      headed_in_order (codes "seats") (some strategy) (some_in_order strategy strategy_in_order),
      (
        headed_in_order (codes "matches") match_list match_list_in_order,
        (headed_in_order (codes "turns") (row (any_number ∷ [])) (row_in_order (any_number ∷ []) (any_in_order, tt)), tt),
      ),
    ))

-- THE SECOND ROUND

one_fault : (b : Bool) (kind : PlanKind) (at : ℕ) → OfTurn (turn_of kind) (fault_unless b kind at) × Leads (fault_unless b kind at)
one_fault true kind at = (tt, tt)
one_fault false kind at = ((refl, tt), (itself (record { kind = kind; at = at }), tt))

count_here : (b : Bool) (from : ℕ) (starts : List ℕ) → Stand 3 (fault_unless b Matches from) (from ∷ starts)
count_here true from starts = tt
count_here false from starts = inl (refl, refl, tt)

from_in_order : (form : Tree) → Stand 3 (from_faults form) (starts form)
from_in_order (word bytes from to) = tt
from_in_order (list nil from to) = tt
from_in_order (list (cons a nil) from to) = tt
from_in_order (list (cons a (cons b nil)) from to) = tt
from_in_order (list (cons a (cons b (cons c nil))) from to) = tt
from_in_order (list (cons a (cons b (cons c (cons d nil)))) from to) =
    count_here (is_countable (number_in b) (number_in c) (number_in d)) from (all_starts (cons a (cons b (cons c (cons d nil)))))
from_in_order (list (cons a (cons b (cons c (cons d (cons e parts))))) from to) = tt

froms_in_order : (parts : Trees) → Stand 3 (each from_faults parts) (all_starts parts)
froms_in_order nil = tt
froms_in_order (cons part parts) =
    stand_both 3 (from_faults part) (each from_faults parts) (starts part) (all_starts parts) (from_in_order part) (froms_in_order parts)

matches_in_order : (form : Tree) → Stand 3 (match_faults form) (starts form)
matches_in_order (word bytes from to) = tt
matches_in_order (list nil from to) = tt
matches_in_order (list (cons head parts) from to) =
    stand_behind 3 _ (from ∷ []) (all_starts (cons head parts)) (stand_behind 3 _ (starts head) (all_starts parts) (froms_in_order parts))

turns_alone : (form : Tree) → OfTurn 4 (turn_faults form) × Leads (turn_faults form)
turns_alone (word bytes from to) = (tt, tt)
turns_alone (list nil from to) = (tt, tt)
turns_alone (list (cons a nil) from to) = (tt, tt)
turns_alone (list (cons a (cons b nil)) from to) = one_fault (is_between 1 100000 (number_in b)) Turns (start_of b)
turns_alone (list (cons a (cons b (cons c parts))) from to) = (tt, tt)

seats_alone : (players : ℕ) (form : Tree) → OfTurn 2 (seat_faults players form) × Leads (seat_faults players form)
seats_alone players (word bytes from to) = (tt, tt)
seats_alone players (list nil from to) = (tt, tt)
seats_alone players (list (cons head parts) from to) = one_fault (count parts == players) Seats from

-- the starts of a part of a list rise where those of the list do
Rise-behind : (before numbers : List ℕ) (low high : ℕ) → Rise low high (before ++ numbers) → (next : ℕ) × Rise next high numbers
Rise-behind [] numbers low high rise = (low, rise)
Rise-behind (n ∷ before) numbers low high rise = Rise-behind before numbers (n + 1) high rise.1

Rise-before : (numbers behind : List ℕ) (low high : ℕ) → Rise low high (numbers ++ behind) → (end : ℕ) × Rise low end numbers
Rise-before [] behind low high rise = (low, omega arith)
Rise-before (n ∷ numbers) behind low high rise =
    let rest = Rise-before numbers behind (n + 1) high rise.1 in (rest.0, (rise.0, rest.1))

turn_from : (turn least : ℕ) (faults : List PlanFault) → least ≤ turn → OfTurn turn faults → FromTurn least faults
turn_from turn least faults below of =
    each_then (λ fault. turn_of fault.kind ≡ turn) (λ fault. least ≤ turn_of fault.kind) faults (λ fault is. omega (arith, is, below)) of

second_in_order : (players : ℕ) (form : Tree) (low high : ℕ) → Rise low high (starts form)
    → FromTurn 2 (second_round players form) × Leads (second_round players form)
second_in_order players (word bytes from to) low high rise = (tt, tt)
second_in_order players (list nil from to) low high rise = (tt, tt)
second_in_order players (list (cons a nil) from to) low high rise = (tt, tt)
second_in_order players (list (cons a (cons b nil)) from to) low high rise = (tt, tt)
second_in_order players (list (cons a (cons b (cons c nil))) from to) low high rise = (tt, tt)
second_in_order players (list (cons head (cons a (cons b (cons c nil)))) from to) low high rise =
    let seat = seats_alone players a in
    let turn = turns_alone c in
    let small = is_small (match_parts b) (turn_limit c) in
    let large = one_fault small TooLarge from in
    let behind_head = Rise-behind (starts head) (all_starts (cons a (cons b (cons c nil)))) (from + 1) high rise.1 in
    let behind_seats = Rise-behind (starts a) (all_starts (cons b (cons c nil))) behind_head.0 high behind_head.1 in
    let here = Rise-before (starts b) (all_starts (cons c nil)) behind_seats.0 high behind_seats.1 in
    let stand = matches_in_order b in
    let of = stand_turn 3 (match_faults b) (starts b) stand in
    let leads = stand_leads 3 (match_faults b) (starts b) behind_seats.0 here.0 stand here.1 in
    let S = seat_faults players a in
    let M = match_faults b in
    let T = turn_faults c in
    let L = fault_unless small TooLarge from in
    let assoc : S ++ M ++ T ++ L ≡ S ++ (M ++ (T ++ L)) = append_assoc (S ++ M) T L ∙ append_assoc S M (T ++ L) in
    let from_large = turn_from 5 5 L (omega arith) large.0 in
    let from_turns = each_of_both (λ fault. 4 ≤ turn_of fault.kind) T L (turn_from 4 4 T (omega arith) turn.0) (turn_from 5 4 L (omega arith) large.0) in
    let three_up = each_of_both (λ fault. 3 ≤ turn_of fault.kind) M (T ++ L) (turn_from 3 3 M (omega arith) of)
    (each_then (λ fault. 4 ≤ turn_of fault.kind) (λ fault. 3 ≤ turn_of fault.kind) (T ++ L) (λ fault is. omega (arith, is)) from_turns) in
    let two_up = each_of_both (λ fault. 2 ≤ turn_of fault.kind) S (M ++ (T ++ L)) (turn_from 2 2 S (omega arith) seat.0)
    (each_then (λ fault. 3 ≤ turn_of fault.kind) (λ fault. 2 ≤ turn_of fault.kind) (M ++ (T ++ L)) (λ fault is. omega (arith, is)) three_up) in
    let all = leads_both 2 S (M ++ (T ++ L)) seat.0 three_up seat.1
    (leads_both 3 M (T ++ L) of from_turns leads (leads_both 4 T L turn.0 from_large turn.1 large.1)) in
    (subst (FromTurn 2) (sym assoc) two_up, subst Leads (sym assoc) all)
second_in_order players (list (cons a (cons b (cons c (cons d (cons e parts))))) from to) low high rise = (tt, tt)

-- ALL FAULTS

in_order : (players : ℕ) (form : Tree) (size : ℕ) → IsPlaced size form → Leads (plan_faults players form)
in_order players form size placed =
    let stand = first_in_order form in
    let second = second_in_order players form 0 size placed in
    leads_both 1 (first_round form) (second_round players form) (stand_turn 1 (first_round form) (starts form) stand) second.0
    (stand_leads 1 (first_round form) (starts form) 0 size stand placed) second.1

-- the first of the faults of a form that is placed
pub first_is_first : (players : ℕ) (form : Tree) (size : ℕ) (fault : PlanFault) → IsPlaced size form
    → first (plan_faults players form) ≡ Some fault → IsFirstOf (plan_faults players form) fault
first_is_first players form size fault placed is = of (plan_faults players form) is (in_order players form size placed) where
  of : (faults : List PlanFault) → first faults ≡ Some fault → Leads faults → IsFirstOf faults fault
  of [] is leads = absurd cc
  of (head ∷ faults) is leads =
      let same : head ≡ fault = cc in
      record {
        stands = (0, omega arith, same);
        least = subst (λ f. All (λ other. IsTrue (is_told_first f other)) (head ∷ faults)) same
            (all_of (λ other. IsTrue (is_told_first head other)) (head ∷ faults) leads);
      }
