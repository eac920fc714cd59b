-- What a walk over parts leaves in a field, as a fold over what the parts give.
use Rattle.std.proofs.Common.{◌≡◌, List, [], ◌∷◌, refl, sym, ap, ◌∙◌}
use Rattle.std.specs.List.{flat_map, fold}
use Rattle.std.proofs.lemmas.List.Sums.{fold-append}
use Rattle.rc_check.specs.SecondParts.{Part}
use Rattle.rc_check.specs.Summary.{Whole, know, know_all, Summary, see, see_all}

-- where each part adds what it gives to a field of what is known, all parts together do
pub know_field : {R X : Type 0} (field : Whole → R) (add : R → X → R) (given : Part → List X)
    → ((known : Whole) (part : Part) → field (know known part) ≡ fold add (field known) (given part))
    → (known : Whole) (parts : List Part) → field (know_all known parts) ≡ fold add (field known) (flat_map given parts)
know_field field add given step known [] = refl
know_field field add given step known (part ∷ parts) =
    know_field field add given step (know known part) parts
    ∙ ap (λ r. fold add r (flat_map given parts)) (step known part)
    ∙ sym (fold-append add (field known) (given part) (flat_map given parts))

-- the same of what was seen
pub see_field : {R X : Type 0} (whole : Whole) (field : Summary → R) (add : R → X → R) (given : Part → List X)
    → ((seen : Summary) (part : Part) → field (see whole seen part) ≡ fold add (field seen) (given part))
    → (seen : Summary) (parts : List Part) → field (see_all whole seen parts) ≡ fold add (field seen) (flat_map given parts)
see_field whole field add given step seen [] = refl
see_field whole field add given step seen (part ∷ parts) =
    see_field whole field add given step (see whole seen part) parts
    ∙ ap (λ r. fold add r (flat_map given parts)) (step seen part)
    ∙ sym (fold-append add (field seen) (given part) (flat_map given parts))
