-- Parts of a region of bytes, where other bytes of it are written.
use Rattle.std.proofs.Common.{◌≡◌, ℕ, ◌+◌, ◌-◌, ◌≤◌, List, ◌++◌, length, take, drop, sym, ◌∙◌, ap, arith}
use Rattle.std.specs.List.{splice}
use Rattle.std.proofs.Math.Seq.{take-append_seam, drop-append_seam, drop-append-add}
use Rattle.std.proofs.lemmas.List.{take-append-le, take-take, drop-drop, drop-take, length-take-le, length-drop, length-append}
use Rattle.sercos_block.specs.declared.entry.Part.{Part}
use Rattle.sercos_block.specs.Regions.{part_of, part_at}

-- a part is read from the bytes before a place after it ..
taken : (n place len : ℕ) (r : List ℕ) → place + len ≤ n → take len (drop place (take n r)) ≡ take len (drop place r)
taken n place len r inside =
    let rest : place + (n - place) ≡ n = omega arith in
    let cut = drop-take place (n - place) r in
    let cut' : drop place (take n r) ≡ take (n - place) (drop place r) = ap (λ m. drop place (take m r)) (sym rest) ∙ cut in
    ap (take len) cut' ∙ take-take len (n - place) (drop place r) (omega arith)

pub part_before : (n : ℕ) (r s : List ℕ) (p : Part) → p.place + p.len ≤ n → take n r ≡ take n s → part_of r p ≡ part_of s p
part_before n r s p inside same = sym (taken n p.place p.len r inside) ∙ ap (λ t. take p.len (drop p.place t)) same ∙ taken n p.place p.len s inside

-- .. and from those after a place before it
pub drop_more : (low n : ℕ) (r s : List ℕ) → low ≤ n → drop low r ≡ drop low s → drop n r ≡ drop n s
drop_more low n r s less same =
    let sum : low + (n - low) ≡ n = omega arith in
    ap (λ m. drop m r) (sym sum) ∙ sym (drop-drop (n - low) low r) ∙ ap (drop (n - low)) same ∙ drop-drop (n - low) low s ∙ ap (λ m. drop m s) sum

pub part_after : (low : ℕ) (r s : List ℕ) (p : Part) → low ≤ p.place → drop low r ≡ drop low s → part_of r p ≡ part_of s p
part_after low r s p less same = ap (take p.len) (drop_more low p.place r s less same)

-- bytes between others are a part
pub part_between : (front mid back : List ℕ) → part_of (front ++ (mid ++ back)) (part_at (length front) mid) ≡ mid
part_between front mid back = ap (take (length mid)) (drop-append_seam front (mid ++ back)) ∙ take-append_seam mid back

-- what a write leaves
pub take_spliced : (r bytes : List ℕ) (place n : ℕ) → n ≤ place → place ≤ length r → take n (splice r place (place + length bytes) bytes) ≡ take n r
take_spliced r bytes place n less inside =
    let here = length-take-le place r inside in
    take-append-le n (take place r) (bytes ++ drop (place + length bytes) r) (omega arith) ∙ take-take n place r less

pub drop_spliced : (r bytes : List ℕ) (place n : ℕ) → place + length bytes ≤ n → place ≤ length r → drop n (splice r place (place + length bytes) bytes) ≡ drop n r
drop_spliced r bytes place n more inside =
    let here = length-take-le place r inside in
    let after = place + length bytes in
    let rest = n - (place + length bytes) in
    let sum : length (take place r) + (length bytes + (n - (place + length bytes))) ≡ n = omega arith in
    let sum' : place + length bytes + (n - (place + length bytes)) ≡ n = omega arith in
    ap (λ m. drop m (splice r place (place + length bytes) bytes)) (sym sum)
    ∙ drop-append-add (take place r) (bytes ++ drop (place + length bytes) r) (length bytes + (n - (place + length bytes)))
    ∙ drop-append-add bytes (drop (place + length bytes) r) (n - (place + length bytes))
    ∙ drop-drop (n - (place + length bytes)) (place + length bytes) r
    ∙ ap (λ m. drop m r) sum'

pub part_spliced : (r bytes : List ℕ) (place : ℕ) → place ≤ length r → part_of (splice r place (place + length bytes) bytes) (record { place = place; len = length bytes }) ≡ bytes
part_spliced r bytes place inside =
    let here = length-take-le place r inside in
    ap (λ m. take (length bytes) (drop m (splice r place (place + length bytes) bytes))) (sym here)
    ∙ part_between (take place r) bytes (drop (place + length bytes) r)

pub length_spliced : (r bytes : List ℕ) (place : ℕ) → place + length bytes ≤ length r → length (splice r place (place + length bytes) bytes) ≡ length r
length_spliced r bytes place inside =
    let here = length-take-le place r (omega arith) in
    let there = length-drop (place + length bytes) r in
    length-append (take place r) (bytes ++ drop (place + length bytes) r)
    ∙ ap (λ m. length (take place r) + m) (length-append bytes (drop (place + length bytes) r))
    ∙ omega arith
