-- One walk finds the first fault.
use Rattle.std.proofs.Common.{◌≡◌, Bool, true, false, cond, List, [], ◌∷◌, ◌++◌, Option, Some, None, Result, refl, sym, ap, ◌∙◌}
use Rattle.std.specs.Option.{option_map}
use Rattle.rc_base.specs.Tree.{Tree}
use Rattle.rc_check.specs.Faults.{first, fault_of}
use Rattle.rc_check.specs.SecondParts.{Part, offset_of, parts_of}
use Rattle.rc_check.specs.SecondFaults.{is_twice, is_unknown, is_wrong_kind, is_too_many, lacks_cards, fault_where, faults_of, faults_behind, or_fault}
use Rattle.rc_check.specs.Summary.{Whole, whole_of, Summary, nothing_seen, see, summary_of, is_again, is_not_known, is_wrong, is_over, fault_by, or_on, check_all}
use Rattle.rc_check.specs.SecondWalk.{FindsFirst}
use Rattle.rc_check.proofs.Known.{Knows, Knows-whole}
use Rattle.rc_check.proofs.Seen.{Recalls, Recalls-summary}
use Rattle.rc_check.proofs.FaultTests.{again_is_twice, not_known_is_unknown, wrong_is_wrong_kind, without_deck}
use Rattle.rc_check.proofs.Limits.{over_is_too_many}
use Rattle.rc_check.proofs.Walks.{see_all-append}
use Rattle.rc_check.specs.declared.fault.SheetKind.{SheetKind}
use Rattle.rc_check.specs.declared.fault.SheetKind.TheVariants.{Twice, Unknown, WrongKind, TooMany, NoCards}
use Rattle.rc_check.specs.declared.fault.SheetFault.{SheetFault}

-- the faults by five tests, and the first of them
abbrev five : Part → Bool → Bool → Bool → Bool → Bool → List SheetFault
five part twice unknown wrong many cards =
    fault_where twice Twice part ++ fault_where unknown Unknown part ++ fault_where wrong WrongKind part
    ++ fault_where many TooMany part ++ fault_where cards NoCards part

-- the first kind of them, and the fault that it is
abbrev kind_of_five : Bool → Bool → Bool → Bool → Bool → Option SheetKind
kind_of_five twice unknown wrong many cards =
    cond twice (Some Twice)
    (cond unknown (Some Unknown) (cond wrong (Some WrongKind) (cond many (Some TooMany) (cond cards (Some NoCards) None))))

abbrev fault_at : Part → Option SheetKind → Option SheetFault
fault_at part kind = option_map (λ kind. record { kind = kind; at = offset_of part }) kind

abbrev answer : Part → Bool → Bool → Bool → Bool → Bool → Option SheetFault
answer part twice unknown wrong many cards = fault_at part (kind_of_five twice unknown wrong many cards)

first_of_five : (part : Part) (twice unknown wrong many cards : Bool)
    → first (five part twice unknown wrong many cards) ≡ answer part twice unknown wrong many cards
first_of_five part true unknown wrong many cards = refl
first_of_five part false true wrong many cards = refl
first_of_five part false false true many cards = refl
first_of_five part false false false true cards = refl
first_of_five part false false false false true = refl
first_of_five part false false false false false = refl

-- the first fault of a part, by what earlier parts left behind
pub fault_law : (all : List Part) (whole : Whole) (earlier : List Part) (seen : Summary) → Knows all whole
    → Recalls whole earlier seen
    → (part : Part) → first (faults_of all earlier part) ≡ fault_by whole seen part
fault_law all whole earlier seen knows recalls part =
    first_of_five part (is_twice earlier part) (is_unknown all earlier part) (is_wrong_kind earlier part)
    (is_too_many all earlier part) (lacks_cards all part)
    ∙ ap (λ b. answer part b (is_unknown all earlier part) (is_wrong_kind earlier part) (is_too_many all earlier part)
    (lacks_cards all part))
    (sym (again_is_twice all whole knows earlier seen recalls part))
    ∙ ap (λ b. answer part (is_again seen part) b (is_wrong_kind earlier part) (is_too_many all earlier part)
    (lacks_cards all part))
    (sym (not_known_is_unknown all whole knows earlier seen recalls part))
    ∙ ap (λ b. answer part (is_again seen part) (is_not_known whole seen part) b (is_too_many all earlier part)
    (lacks_cards all part))
    (sym (wrong_is_wrong_kind all whole knows earlier seen recalls part))
    ∙ ap (λ b. answer part (is_again seen part) (is_not_known whole seen part) (is_wrong seen part) b (lacks_cards all part))
    (sym (over_is_too_many all whole knows earlier seen recalls part))
    ∙ ap (λ b. answer part (is_again seen part) (is_not_known whole seen part) (is_wrong seen part) (is_over whole seen part) b)
    (sym (without_deck all whole knows earlier seen recalls part))

-- the first of some faults and of more
first-append : (faults more : List SheetFault) → first (faults ++ more) ≡ or_fault (first faults) (first more)
first-append [] more = refl
first-append (fault ∷ faults) more = refl

-- the walk's answer at a part
or_next : (fault : Option SheetFault) (next : Result Summary SheetFault)
    → or_fault fault (fault_of next) ≡ fault_of (or_on fault next)
or_next None next = refl
or_next (Some fault) next = refl

-- the first fault of the parts behind the earlier ones
pub behind_law : (all earlier parts : List Part)
    → first (faults_behind all earlier parts) ≡ fault_of (check_all (whole_of all) (summary_of (whole_of all) earlier) parts)
behind_law all earlier [] = refl
behind_law all earlier (part ∷ parts) =
    let whole = whole_of all in
    let seen = summary_of whole earlier in
    first-append (faults_of all earlier part) (faults_behind all (earlier ++ part ∷ []) parts)
    ∙ ap (λ fault. or_fault fault (first (faults_behind all (earlier ++ part ∷ []) parts)))
    (fault_law all whole earlier seen (Knows-whole all) (Recalls-summary whole earlier) part)
    ∙ ap (or_fault (fault_by whole seen part)) (behind_law all (earlier ++ part ∷ []) parts)
    ∙ ap (λ seen'. or_fault (fault_by whole seen part) (fault_of (check_all whole seen' parts)))
    (see_all-append whole nothing_seen earlier (part ∷ []))
    ∙ or_next (fault_by whole seen part) (check_all whole (see whole seen part) parts)

-- the first fault of a form
pub finds_first : (tree : Tree) → FindsFirst tree
finds_first tree = behind_law (parts_of tree) [] (parts_of tree)
