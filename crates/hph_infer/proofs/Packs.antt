-- The seats and the reports of workers.
use Rattle.std.proofs.Common.{◌≡◌, List, [], ◌∷◌, ◌++◌, append_assoc, Ok, sym, refl, ap, subst, ◌∙◌}
use mathlib.Core.List.{map-append}
use Rattle.std.proofs.lemmas.List.{append-nil}
use Rattle.hph_core.specs.declared.view.View.{View}
use Rattle.hph_table.specs.Ids.{TableId}
use Rattle.hph_infer.specs.declared.threads.Worker.{Worker}
use Rattle.hph_infer.specs.declared.turns.Report.{Report}
use Rattle.hph_infer.specs.Team.{seat_of, Unpacked}

two_lists : {A : Type 0} → (xs ys : List A) (x y : A) (E : Type 0) → xs ≡ ys → x ≡ y → xs ++ x ∷ [] ≡ ys ++ y ∷ []
two_lists xs ys x y E e f = λ i. e i ++ f i ∷ []

module _ {S : Type 0} where
  pub record UnpackedSoFar (all rest : List (Worker S)) (seats : List (TableId × View)) (reports : List Report) : Type 0 where
    pub done : List (Worker S)
    pub all_is : done ++ rest ≡ all
    pub so_far : Unpacked done seats reports

  pub unpack_start : (all : List (Worker S)) → UnpackedSoFar all all [] []
  unpack_start all = record { done = []; all_is = refl; so_far = record { seats_are = refl; reports_are = refl } }

  pub unpack_more : (all rest rest' : List (Worker S)) (seats : List (TableId × View)) (reports : List Report) (w : Worker S) (r : Report) → UnpackedSoFar all rest seats reports → rest ≡ w ∷ rest' → w.report ≡ Ok r → UnpackedSoFar all rest' (seats ++ w.seat ∷ []) (reports ++ r ∷ [])
  unpack_more all rest rest' seats reports w r was e f = record {
    done = was.done ++ w ∷ [];
    all_is = append_assoc was.done (w ∷ []) rest' ∙ (ap (λ (x : List (Worker S)). was.done ++ x) (sym e) ∙ was.all_is);
    so_far = record {
      seats_are = ap (λ (x : List (TableId × View)). x ++ w.seat ∷ []) was.so_far.seats_are ∙ sym (map-append seat_of was.done (w ∷ []));
      reports_are = map-append (λ (x : Worker S). x.report) was.done (w ∷ []) ∙ (two_lists _ _ _ _ (Unit {0}) was.so_far.reports_are f ∙ sym (map-append Ok reports (r ∷ [])));
    };
  }

  pub unpack_end : (all : List (Worker S)) (seats : List (TableId × View)) (reports : List Report) → UnpackedSoFar all [] seats reports → Unpacked all seats reports
  unpack_end all seats reports was = subst (λ (x : List (Worker S)). Unpacked x seats reports) (sym (append-nil was.done) ∙ was.all_is) was.so_far
