-- Reading as a whole, as its contract says it. Assumes nothing.
use Rattle.std.proofs.Common.{◌≡◌, ℕ, zero, suc, ◌+◌, ◌-◌, ◌*◌, ◌/◌, ◌<◌, ◌≤◌, true, false, List, ◌∷◌, length, map, get_or, take, drop, is_err, Ok, Err, Result, sym, refl, ap, ◌∙◌, subst, add-zero, arith}
use Rattle.std.specs.Simd.{first_chunks}
use Rattle.std.proofs.lemmas.List.{drop-drop, get_or-drop, get_or-take, length-take-le}
use Rattle.sheet.specs.declared.answers.ReadRefusal.{ReadRefusal}
use Rattle.sheet.specs.Bytes.{add_formulas, add_rules, Brought, bytes_of, counts, fields_from, fields_in, reading, Received, then_read}
use Rattle.sheet.specs.Conditions.{Conditions, server}
use Rattle.sheet.specs.Contents.{Contents, empty}
use Rattle.sheet.proofs.Receives.{brought_is, reading_counted, refused_is}
use Rattle.sheet.proofs.Reread.{reread}
use Rattle.sheet.proofs.Rewritten.{rewritten, sized}

-- the bytes of formulas, cut out in chunks of eight, hold the fields that the whole holds there

chunked : (bs : List ℕ) (end n at : ℕ) → at + 8 * n ≤ end → map fields_in (first_chunks 8 n (drop at (take end bs))) ≡ fields_from n bs at
unfolding fields_from
chunked bs end zero at h = refl
chunked bs end (suc n) at h =
    let L = take end bs in
    let same : (k : ℕ) → k < 8 → get_or (take 8 (drop at L)) k 0 ≡ get_or bs (at + k) 0 = λ k lt. get_or-take 8 (drop at L) k 0 lt ∙ get_or-drop at L k 0 ∙ get_or-take end bs (at + k) 0 (omega arith) in
    let first : get_or (take 8 (drop at L)) 0 0 ≡ get_or bs at 0 = same 0 (omega arith) ∙ ap (λ (k : ℕ). get_or bs k 0) (add-zero at) in
    let rest : drop 8 (drop at L) ≡ drop (at + 8) L = drop-drop 8 at L in
    let more = chunked bs end n (at + 8) (omega arith) in
    λ i. record {
      kind = first i;
      a = same 1 (omega arith) i;
      b = same 2 (omega arith) i;
      scale = same 3 (omega arith) i;
      low = same 4 (omega arith) i * 256 + same 5 (omega arith) i;
      high = same 6 (omega arith) i * 256 + same 7 (omega arith) i;
    } ∷ (ap (λ (l : List ℕ). map fields_in (first_chunks 8 n l)) rest ∙ more) i

-- formulas and rules, added to an empty sheet as they lie in sound bytes

module _ (bs : List ℕ) (n m : ℕ) (counted : Ok (n, m) ≡ counts bs) (start mid : Contents) (none : start ≡ empty) (chunks : List (List ℕ)) (cut : chunks ≡ first_chunks 8 (length (take (8 * n) bs) / 8) (take (8 * n) bs)) where
  formulas_there : add_formulas server 0 start (map fields_in chunks) ≡ add_formulas server 0 empty (fields_from n bs 0)
  formulas_there =
      let long = (sized bs n m (sym counted)).long in
      let whole : length (take (8 * n) bs) / 8 ≡ n = omega (arith, length-take-le (8 * n) bs (omega arith)) in
      let fields : map fields_in chunks ≡ fields_from n bs 0 =
      ap (map fields_in) cut ∙ ap (λ (k : ℕ). map fields_in (first_chunks 8 k (take (8 * n) bs))) whole ∙ chunked bs (8 * n) n 0 (omega arith)
      in
      λ i. add_formulas server 0 (none i) (fields i)

  pub all_stopped : (e : ReadRefusal) → Brought (add_formulas server 0 start (map fields_in chunks)) (Err e) mid → Brought (reading server bs) (Err e) mid
  all_stopped e formulas =
      let is : reading server bs ≡ Err e =
      reading_counted server bs n m counted
      ∙ ap (λ (k : Result Contents ReadRefusal). then_read k (λ d. add_rules server n d (take m (drop (8 * n) bs)))) (sym formulas_there ∙ refused_is _ e mid formulas)
      in
      subst (λ (all : Result Contents ReadRefusal). Brought all (Err e) mid) (sym is) refl

  pub all_brought : (after : Contents) (r : Result (Unit {0}) ReadRefusal) → Brought (add_formulas server 0 start (map fields_in chunks)) (Ok tt) mid → Brought (add_rules server n mid (take (8 * n + m - 8 * n) (drop (8 * n) bs))) r after → Brought (reading server bs) r after
  all_brought after r formulas rules =
      let size : 8 * n + m - 8 * n ≡ m = omega arith in
      let is : reading server bs ≡ add_rules server n mid (take (8 * n + m - 8 * n) (drop (8 * n) bs)) =
      reading_counted server bs n m counted
      ∙ ap (λ (k : Result Contents ReadRefusal). then_read k (λ d. add_rules server n d (take m (drop (8 * n) bs)))) (sym formulas_there ∙ brought_is _ mid formulas)
      ∙ ap (λ (k : ℕ). add_rules server n mid (take k (drop (8 * n) bs))) (sym size)
      in
      subst (λ (all : Result Contents ReadRefusal). Brought all r after) (sym is) rules

-- what a reading leaves, where it was refused and where it was not

received : (all : Result Contents ReadRefusal) (r : Result (Unit {0}) ReadRefusal) (after : Contents) → Brought all r after → false ≡ is_err r → Received all r after
received (Ok c) r after h e = h
received (Err x) (Ok u) after h e = absurd (cc h)
received (Err x) (Err y) after h e = absurd (cc e)

emptied : (all : Result Contents ReadRefusal) (r : Result (Unit {0}) ReadRefusal) (mid after : Contents) → Brought all r mid → true ≡ is_err r → after ≡ empty → Received all r after
emptied (Ok c) (Ok u) mid after h e none = absurd (cc e)
emptied (Ok c) (Err x) mid after h e none = absurd (cc h.0)
emptied (Err x) r mid after h e none = (h, none)

-- the clauses, one by one

module _ (bs : List ℕ) (r : Result (Unit {0}) ReadRefusal) (after : Contents) where
  -- the bytes of a sheet are read as that sheet
  found : Received (reading server bs) r after → (c : Contents) → Conditions server c.formulas c.rules → bytes_of c ≡ bs → (r ≡ Ok tt) × (after ≡ c)
  found h c lawful e = subst (λ (all : Result Contents ReadRefusal). Received all r after) (ap (reading server) (sym e) ∙ reread c lawful) h

  module _ (h : Brought (reading server bs) r after) (ok : false ≡ is_err r) where
    pub done_value : Received (reading server bs) r after
    done_value = received (reading server bs) r after h ok

    pub done_finds : (c : Contents) → Conditions server c.formulas c.rules → bytes_of c ≡ bs → (r ≡ Ok tt) × (after ≡ c)
    done_finds = found done_value

    pub done_back : ((k : ℕ) → get_or bs k 0 < 256) → r ≡ Ok tt → bytes_of after ≡ bs
    done_back fits e = rewritten bs fits server after (brought_is _ after (subst (λ (x : Result (Unit {0}) ReadRefusal). Brought (reading server bs) x after) e h))

pub refused_value : (bs : List ℕ) (r : Result (Unit {0}) ReadRefusal) (mid after : Contents) → Brought (reading server bs) r mid → true ≡ is_err r → after ≡ empty → Received (reading server bs) r after
refused_value bs r mid after = emptied (reading server bs) r mid after

pub refused_finds : (bs : List ℕ) (r : Result (Unit {0}) ReadRefusal) (mid c : Contents) → Brought (reading server bs) r mid → true ≡ is_err r → Conditions server c.formulas c.rules → bytes_of c ≡ bs → ⊥
refused_finds bs r mid c h err lawful e = cc (err, ap is_err (found bs r empty (refused_value bs r mid empty h err refl) c lawful e).0)
