-- Walks over parts that stand one behind the other.
use Rattle.std.proofs.Common.{◌≡◌, List, [], ◌∷◌, ◌++◌, Option, Some, None, Result, Ok, Err, refl, ap, ◌∙◌}
use Rattle.rc_check.specs.SecondParts.{Part}
use Rattle.rc_check.specs.Summary.{Whole, know, know_all, Summary, see, see_all, fault_by, or_on, check_all}
use Rattle.rc_check.specs.SecondWalk.{check_on}
use Rattle.rc_check.specs.declared.fault.SheetFault.{SheetFault}

-- what is known behind more parts
pub know_all-append : (known : Whole) (parts more : List Part)
    → know_all known (parts ++ more) ≡ know_all (know_all known parts) more
know_all-append known [] more = refl
know_all-append known (part ∷ parts) more = know_all-append (know known part) parts more

-- what more parts leave behind
pub see_all-append : (whole : Whole) (seen : Summary) (parts more : List Part)
    → see_all whole seen (parts ++ more) ≡ see_all whole (see_all whole seen parts) more
see_all-append whole seen [] more = refl
see_all-append whole seen (part ∷ parts) more = see_all-append whole (see whole seen part) parts more

-- a fault, or the others and then more
on_behind : (whole : Whole) (fault : Option SheetFault) (next : Result Summary SheetFault) (more : List Part)
    → or_on fault (check_on whole next more) ≡ check_on whole (or_on fault next) more
on_behind whole None next more = refl
on_behind whole (Some fault) next more = refl

-- the first fault among these parts, or else among more
pub check_all-append : (whole : Whole) (seen : Summary) (parts more : List Part)
    → check_all whole seen (parts ++ more) ≡ check_on whole (check_all whole seen parts) more
check_all-append whole seen [] more = refl
check_all-append whole seen (part ∷ parts) more =
    ap (or_on (fault_by whole seen part)) (check_all-append whole (see whole seen part) parts more)
    ∙ on_behind whole (fault_by whole seen part) (check_all whole (see whole seen part) parts) more

-- behind parts without a fault
pub check_all-fine : (whole : Whole) (seen seen' : Summary) (parts more : List Part) → check_all whole seen parts ≡ Ok seen'
    → check_all whole seen (parts ++ more) ≡ check_all whole seen' more
check_all-fine whole seen seen' parts more fine =
    check_all-append whole seen parts more ∙ ap (λ result. check_on whole result more) fine

-- behind a part with one
pub check_all-faulty : (whole : Whole) (seen : Summary) (parts more : List Part) (fault : SheetFault)
    → check_all whole seen parts ≡ Err fault
    → check_all whole seen (parts ++ more) ≡ Err fault
check_all-faulty whole seen parts more fault faulty =
    check_all-append whole seen parts more ∙ ap (λ result. check_on whole result more) faulty
