-- The line of each refusal with a path, whose bytes are handed on as another list.
use Rattle.std.proofs.Common.{◌≡◌, ℕ, List, codes, refl}
use Rattle.sercos_document.specs.declared.refusal.BadDocument.{BadDocument}
use Rattle.sercos_document.specs.declared.refusal.BadDocument.TheVariants.{Missing, Kind, Twice, Unknown}
use Rattle.sercos_document.specs.Lines.{path_line, line_of}

pub missing_line : (bad : BadDocument) (p q : List ℕ) → bad ≡ Missing p → q ≡ p → line_of bad ≡ path_line (codes "refused 2 missing ") q
unfolding line_of
missing_line bad p q is same = rw (is, same) refl

pub kind_line : (bad : BadDocument) (p q : List ℕ) → bad ≡ Kind p → q ≡ p → line_of bad ≡ path_line (codes "refused 3 kind ") q
unfolding line_of
kind_line bad p q is same = rw (is, same) refl

pub twice_line : (bad : BadDocument) (p q : List ℕ) → bad ≡ Twice p → q ≡ p → line_of bad ≡ path_line (codes "refused 5 twice ") q
unfolding line_of
twice_line bad p q is same = rw (is, same) refl

pub unknown_line : (bad : BadDocument) (p q : List ℕ) → bad ≡ Unknown p → q ≡ p → line_of bad ≡ path_line (codes "refused 6 unknown ") q
unfolding line_of
unknown_line bad p q is same = rw (is, same) refl
