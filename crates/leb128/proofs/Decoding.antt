-- Decoding finds a number exactly where the bytes begin with its shortest form.
use Prim.Native.Nat.{ℕ, suc, ◌+◌, ◌-◌, ◌*◌, ◌/◌, ◌%◌, ◌≤◌, ◌<◌}
use mathlib.Core.Path.{◌≡◌, refl, sym, ap, ◌∙◌, subst}
use mathlib.Core.List.{List, [], ◌∷◌, ◌++◌}
use native.Mathlib.Numerals.{add-one}
use native.Mathlib.Omega.{arith}
use lib.Dec.{eqb, ltb}
use lib.ListN.{length, drop}
use borrow.Author.Tests.{lt-ltb, le-ltb, ltb-true, ltb-false, eqb-false, ne_eqb}
use Rattle.std.proofs.lemmas.Option.{some_pair_parts}
use Rattle.buffers.specs.Bytes.{AllBelow}
use Rattle.buffers.proofs.Laws.{clash, by_test}
use Rattle.std.specs.Prelude.{Option, Some, None}
use Rattle.leb128.specs.Leb128.{encoded, grouped, decoded_groups, below32, decoded, by_number}
use Rattle.leb128.proofs.Forms.{encoded_small, encoded_large, size_small, size_large, group_large, by_groups}

-- what holds of both that can come of decoding
pub by_decoded : {A : Type 0} (P : A → Type 0) (d : Option (ℕ × ℕ)) (none : A) (some : ℕ → ℕ → A)
    → (d ≡ None → P none)
    → ((n k : ℕ) → d ≡ Some (n, k) → P (some n k))
    → P (by_number d none some)
unfolding by_number
by_decoded P None none some f g = f refl
by_decoded P (Some (n, k)) none some f g = g n k refl

-- of a number that is decoded P holds
pub data Decodes (P : ℕ → ℕ → Type 0) : Option (ℕ × ℕ) → Type 0 where
  is_none : Decodes P None
  is_number : {m j : ℕ} → P m j → Decodes P (Some (m, j))

decodes : {P : ℕ → ℕ → Type 0} {d : Option (ℕ × ℕ)} {n k : ℕ} → Decodes P d → d ≡ Some (n, k) → P n k
decodes is_none e = clash (cc)
decodes {P} {n = n} {k = k} (is_number {m} {j} h) e =
    let same = some_pair_parts m n j k e in
    let p : m ≡ n = same.0 in
    let q : j ≡ k = same.1 in
    subst (P n) q (subst (λ i. P i j) p h)

-- and so on, group by group
groups_decode : (P : ℕ → ℕ → List ℕ → Type 0) → ((b : ℕ) (s : List ℕ) → b < 128 → P b 1 (b ∷ s))
    → ((b n k : ℕ) (s : List ℕ) → 128 ≤ b → (n ≡ 0 → ⊥) → P n k s → P (b - 128 + 128 * n) (k + 1) (b ∷ s))
    → (s : List ℕ)
    → Decodes (λ n k. P n k s) (decoded_groups s)
unfolding decoded_groups grouped
groups_decode P one more [] = is_none
groups_decode P one more (b ∷ s) =
    by_test (Decodes (λ n k. P n k (b ∷ s))) (ltb b 128) _ _ (λ t. is_number (one b s (ltb-true _ _ t)))
    (λ t. go (decoded_groups s) (ltb-false _ _ t) (groups_decode P one more s))
  where
    go : (r : Option (ℕ × ℕ)) → 128 ≤ b → Decodes (λ n k. P n k s) r → Decodes (λ n k. P n k (b ∷ s)) (grouped (b - 128) r)
    go None l is_none = is_none
    go (Some (n, k)) l (is_number h) =
        by_test (Decodes (λ n k. P n k (b ∷ s))) (eqb n 0) _ _ (λ t. is_none) (λ t. is_number (more b n k s l (eqb-false _ _ t) h))

-- decoding what is encoded
groups_back : (t : List ℕ) (n : ℕ) → decoded_groups (encoded n ++ t) ≡ Some (n, length (encoded n))
unfolding decoded_groups grouped
groups_back t =
    by_groups (λ n. decoded_groups (encoded n ++ t) ≡ Some (n, length (encoded n))) (λ n l. rw (encoded_small n l) (simp (lt-ltb n 128 l)))
    (λ n l k. let a : 128 ≤ 128 + n % 128 = omega arith in
    let b : n / 128 ≡ 0 → ⊥ = λ e. omega arith in
    let d : 128 + n % 128 - 128 + 128 * (n / 128) ≡ n = omega arith in
    let e : length (encoded (n / 128)) + 1 ≡ length (encoded n) = omega (arith, size_large n l) in
    rw (← e, encoded_large n l) (simp (le-ltb (128 + n % 128) 128 a, k, ne_eqb (n / 128) 0 b) (rw d refl)))

pub decode_back : (n : ℕ) (t : List ℕ) → n < 4294967296 → decoded (encoded n ++ t) ≡ Some (n, length (encoded n))
unfolding decoded below32
decode_back n t h = rw (groups_back t n) (simp (lt-ltb n 4294967296 h))

-- s begins with the shortest form of n, in k bytes
pub record Leads (n k : ℕ) (s : List ℕ) : Type 0 where
  pub is : s ≡ encoded n ++ drop k s
  pub size : k ≡ length (encoded n)

pub leads_decoded : {n k : ℕ} {s : List ℕ} → n < 4294967296 → Leads n k s → decoded s ≡ Some (n, k)
leads_decoded {n} {k} {s} l h = ap decoded h.is ∙ decode_back n (drop k s) l ∙ ap (λ (j : ℕ). Some (n, j)) (sym h.size)

-- encoding what was decoded
leads_one : (b : ℕ) (s : List ℕ) → b < 128 → Leads b 1 (b ∷ s)
leads_one b s l = record { is = rw (encoded_small b l); size = sym (size_small b l) }

leads_more : (b n k : ℕ) (s : List ℕ) → 128 ≤ b → b < 256 → (n ≡ 0 → ⊥) → Leads n k s → Leads (b - 128 + 128 * n) (k + 1) (b ∷ s)
leads_more b n k s h l z f =
    let p : 128 + (b - 128) ≡ b = omega arith in
    let e : encoded (b - 128 + 128 * n) ≡ b ∷ encoded n =
    group_large (b - 128) n (omega arith) (omega arith) ∙ ap (λ (a : ℕ). a ∷ encoded n) p in
    record {
      is = rw (e, add-one k) (ap (λ (x : List ℕ). b ∷ x) f.is);
      size = rw e (omega (arith, f.size));
    }

-- a number that was decoded is one of any size, below 2^32
pub record Low (n k : ℕ) (s : List ℕ) : Type 0 where
  pub groups : decoded_groups s ≡ Some (n, k)
  pub low : n < 4294967296

pub decoded_low : (s : List ℕ) {n k : ℕ} → decoded s ≡ Some (n, k) → Low n k s
unfolding decoded below32
decoded_low s e = decodes (go (decoded_groups s) refl) e
  where
    go : (r : Option (ℕ × ℕ)) → decoded_groups s ≡ r → Decodes (λ n k. Low n k s) (below32 r)
    go None q = is_none
    go (Some (m, j)) q =
        by_test (Decodes (λ n k. Low n k s)) (ltb m 4294967296) _ _ (λ t. is_number (record { groups = q; low = ltb-true _ _ t })) (λ t. is_none)

pub decoded_leads : (s : List ℕ) {n k : ℕ} → AllBelow 256 s → decoded s ≡ Some (n, k) → Leads n k s
decoded_leads s h e =
    decodes
    (groups_decode (λ n k x. AllBelow 256 x → Leads n k x) (λ b x l h. leads_one b x l)
    (λ b n k x l z f h. leads_more b n k x l (h 0) z (f (λ i. h (suc i)))) s)
    (decoded_low s e).groups h

-- it takes one byte at least, and no more than there are
pub decoded_inside : (s : List ℕ) {n k : ℕ} → decoded s ≡ Some (n, k) → (1 ≤ k) × (k ≤ length s)
decoded_inside s e =
    decodes
    (groups_decode (λ n k x. (1 ≤ k) × (k ≤ length x)) (λ b x l. (omega arith, omega arith)) (λ b n k x l z f. (omega arith, omega (arith, f.1))) s)
    (decoded_low s e).groups
