-- What holds of each page of a list, by its first page and the rest.
use mathlib.Core.Path.{◌≡◌, refl, ap, subst}
use mathlib.Core.List.{List, [], ◌∷◌, ◌++◌}
use Rattle.buffers.proofs.Laws.{clash}
use Rattle.run.specs.Run.{Page, Each}

pub each_none : (P : List Page → Page → Type 0) → Each [] P
each_none P [] p later e = clash cc
each_none P (q ∷ earlier) p later e = clash cc

module _ (q : Page) (ps : List Page) (P : List Page → Page → Type 0) where
  pub each_first : Each (q ∷ ps) P → P [] q
  each_first h = h [] q ps refl

  pub each_rest : Each (q ∷ ps) P → Each ps (λ earlier. P (q ∷ earlier))
  each_rest h earlier p later e = h (q ∷ earlier) p later (ap (λ (l : List Page). q ∷ l) e)

  pub each_more : P [] q → Each ps (λ earlier. P (q ∷ earlier)) → Each (q ∷ ps) P
  each_more a h [] p later e = let z : q ≡ p = cc in subst (P []) z a
  each_more a h (x ∷ earlier) p later e =
      let z : q ≡ x = cc in
      let r : ps ≡ earlier ++ (p ∷ later) = cc in
      subst (λ (y : Page). P (y ∷ earlier) p) z (h earlier p later r)
