-- A keyword is found where a word spells it, and nowhere else.
use Rattle.std.proofs.Common.{◌≡◌, ℕ, Bool, true, false, List, [], ◌∷◌, Option, Some, None, if◌then◌else◌, unwrap_or, refl, sym, ap, subst, ◌∙◌}
use Rattle.std.specs.List.{find}
use Rattle.std.proofs.lemmas.Slice.Eq.{bytes_eq-Decides}
use Rattle.rc_check.specs.Keyword.{text_of}
use Rattle.rc_check.specs.Faults.{is_word}
use Rattle.rc_check.specs.Spelling.{keywords_from, keyword_of}
use Rattle.rc_check.specs.declared.keyword.Keyword.{Keyword}
use Rattle.rc_check.specs.declared.keyword.Keyword.TheVariants as keyword

-- what is found passes the test
chosen : (test : Keyword → Bool) (x k : Keyword) (passes : Bool) (rest : Option Keyword) → test x ≡ passes
    → (rest ≡ Some k → test k ≡ true) → (if passes then Some x else rest) ≡ Some k → test k ≡ true
chosen test x k true rest is more found = subst (λ k. test k ≡ true) (ap (λ one. unwrap_or one x) found) is
chosen test x k false rest is more found = more found

found_passes : (test : Keyword → Bool) (keywords : List Keyword) (k : Keyword) → find test keywords ≡ Some k → test k ≡ true
found_passes test [] k found = absurd cc
found_passes test (x ∷ keywords) k found =
    chosen test x k (test x) (find test keywords) refl (found_passes test keywords k) found

-- a keyword's text spells it
spells_itself : (k : Keyword) → keyword_of (text_of k) ≡ Some k
spells_itself keyword.Game = refl
spells_itself k = refl

-- the keyword that is found is what the word spells
pub is_spelled : (bytes : List ℕ) (k : Keyword) → keyword_of bytes ≡ Some k → bytes ≡ text_of k
is_spelled [] k found = absurd cc
is_spelled (byte ∷ bytes) k found =
    (bytes_eq-Decides (byte ∷ bytes) (text_of k)).0
    (found_passes (λ k. is_word k (byte ∷ bytes)) (keywords_from byte) k found)

-- where none is found, the word is no keyword
none_by : (bytes : List ℕ) (k : Keyword) (is : Bool) → is_word k bytes ≡ is → keyword_of bytes ≡ None → is_word k bytes ≡ false
none_by bytes k true is none =
    let same = (bytes_eq-Decides bytes (text_of k)).0 is in
    let some = sym none ∙ ap keyword_of same ∙ spells_itself k in
    absurd cc
none_by bytes k false is none = is

pub none_is_spelled : (bytes : List ℕ) (k : Keyword) → keyword_of bytes ≡ None → is_word k bytes ≡ false
none_is_spelled bytes k none = none_by bytes k (is_word k bytes) refl none
