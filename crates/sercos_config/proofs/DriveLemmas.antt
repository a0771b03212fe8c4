-- Drives that may stand behind one another.
use Rattle.std.proofs.Common.{◌≡◌, true, List, [], ◌∷◌, ◌++◌, refl, append_assoc, append-nil}
use Rattle.std.proofs.lemmas.Bool.{and_parts}
use Rattle.sercos_block.specs.Views.{DriveView}
use Rattle.sercos_block.specs.Rings.{is_drive, are_drives}

-- one drive more
are_drives-append : (before xs : List DriveView) (d : DriveView) → are_drives before xs ≡ true → is_drive (before ++ xs) d ≡ true
    → are_drives before (xs ++ d ∷ []) ≡ true
unfolding are_drives
are_drives-append before [] d h k = let first = rw append-nil at k in rw first refl
are_drives-append before (x ∷ xs) d h k =
    let (here, more) = and_parts (is_drive before x) (are_drives (before ++ x ∷ []) xs) h in
    rw (here, are_drives-append (before ++ x ∷ []) xs d more (rw append_assoc k)) refl

-- the drives so far, and one more
pub drives_none : are_drives [] [] ≡ true
unfolding are_drives
drives_none = refl

pub drives_more : (xs : List DriveView) (d : DriveView) → are_drives [] xs ≡ true → is_drive xs d ≡ true → are_drives [] (xs ++ d ∷ []) ≡ true
drives_more xs d h k = are_drives-append [] xs d h k
