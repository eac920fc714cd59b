-- The head of a text is read line by line.
use Rattle.std.proofs.Common.{◌≡◌, ◌≢◌, ℕ, ◌+◌, Bool, List, [], ◌∷◌, ◌++◌, Option, Some, None, Err, refl, sym, ap, ◌∙◌, append-nil}
use Rattle.rc_play_spec.specs.Fields.{◌>>=◌, behind, last}
use Rattle.rc_play_spec.specs.Reading.{before, lines_in, or_at, read_from, take_bytes}
use Rattle.rc_play_spec.proofs.FieldLemmas.{bind_is, behind_only, behind_again}

abbrev Lines : Type 0
Lines = List (List ℕ)

-- the line that is wanted
head_taken : (named : Bool) (want : List ℕ) (later : Lines) → take_bytes named (before (want ∷ later)) want ≡ Some (before later)
head_taken named want later =
    bind_is (behind want want) (last (before later)) [] (Some (before later)) (ap (behind want) (sym (append-nil want)) ∙ behind_again want []) refl

pub head_step : (named : Bool) (n : ℕ) (want : List ℕ) (later more : Lines) (line : List ℕ) (lines : Lines) (rest : List ℕ) → line ≡ want →
    read_from named n (before ((want ∷ later) ++ more)) (line ∷ lines) rest ≡ read_from named (n + 1) (before (later ++ more)) lines rest
head_step named n want later more line lines rest is =
    ap (λ o. or_at n o (λ next. read_from named (n + 1) next lines rest))
    (ap (take_bytes named (before ((want ∷ later) ++ more))) is ∙ head_taken named want (later ++ more))

-- another one
last_other : (want line : List ℕ) (later : Lines) (o : Option (List ℕ)) → behind want line ≡ o → line ≢ want → (o >>= last (before later)) ≡ None
last_other want line later None e ne = refl
last_other want line later (Some []) e ne = absurd (ne (behind_only want line [] e ∙ append-nil want))
last_other want line later (Some (b ∷ bytes)) e ne = refl

pub head_fails : (named : Bool) (n : ℕ) (want : List ℕ) (later more : Lines) (line : List ℕ) (lines : Lines) (rest : List ℕ) → line ≢ want →
    read_from named n (before ((want ∷ later) ++ more)) (line ∷ lines) rest ≡ Err n
head_fails named n want later more line lines rest ne =
    ap (λ o. or_at n o (λ next. read_from named (n + 1) next lines rest)) (last_other want line (later ++ more) (behind want line) refl ne)

-- or none
pub head_missing : (named : Bool) (n : ℕ) (want : List ℕ) (later more : Lines) (rest : List ℕ) →
    read_from named n (before ((want ∷ later) ++ more)) [] rest ≡ Err n
head_missing named n want later more [] = refl
head_missing named n want later more (b ∷ rest) = refl

abbrev pub Cut : List ℕ → Lines × List ℕ → Type 0
Cut bytes cut = lines_in bytes ≡ cut
