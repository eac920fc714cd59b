-- Choices are read into the match that is open.
use Rattle.std.proofs.Common.{◌≡◌, ℕ, ◌+◌, Bool, List, [], ◌∷◌, ◌++◌, Option, Some, None, refl, ap, ◌∙◌, append_assoc}
use Rattle.rc_base.specs.Transcript.{Pick, Record}
use Rattle.rc_play_spec.specs.Fields.{◌>>=◌, ◌or_else◌}
use Rattle.rc_play_spec.specs.ItemBounds.{Bound}
use Rattle.rc_play_spec.specs.Lines.{Marked, chosen, chosen_in, other_in, bare}
use Rattle.rc_play_spec.specs.Reading.{Stand, inside, playing, with_pick, noted, take_marked, read_from, or_at}

noted_behind : (front marks : List (List Bound)) (m : Option (List Bound)) → noted (front ++ marks) m ≡ front ++ noted marks m
noted_behind front marks None = refl
noted_behind front marks (Some m) = append_assoc front marks (m ∷ [])

-- one choice more
pub one_choice : (named : Bool) (n : ℕ) (before : List Record) (front : List (List Bound)) (r : Record) (marks : List (List Bound))
    (line : List ℕ) (lines : List (List ℕ)) (rest : List ℕ) (p : Pick) (m : Option (List Bound)) → chosen_in named line ≡ Some (chosen p, m) →
    read_from named n (inside (playing before r) (front ++ marks)) (line ∷ lines) rest
    ≡ read_from named (n + 1) (inside (playing before (with_pick r p)) (front ++ noted marks m)) lines rest
one_choice named n before front r marks line lines rest p m e =
    ap (λ (o : Option Marked). or_at n ((o or_else (other_in line >>= λ l. Some (bare l))) >>= take_marked (playing before r) (front ++ marks))
    (λ (q : Stand). read_from named (n + 1) q lines rest)) e
    ∙ ap (λ all. read_from named (n + 1) (inside (playing before (with_pick r p)) all) lines rest) (noted_behind front marks m)
