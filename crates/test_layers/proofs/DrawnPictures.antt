-- What the drawn layers of a view show can be read from pictures.
use Rattle.std.proofs.Common.{◌≡◌, ℕ, ◌+◌, ◌<◌, List, [], ◌∷◌, ◌++◌, length, get_or, map, take, subst, sym}
use Rattle.std.specs.List.{AllZip}
use Rattle.std.proofs.lemmas.List.{map-id, take_more}
use Rattle.std.proofs.lemmas.Slice.Zip.{all_zipped_more}
use Rattle.sf_picture.specs.declared.picture.Picture.{Picture}
use Rattle.sf_view.specs.declared.drawn.Drawn.{Drawn}
use Rattle.sf_compose.specs.Readings.{AreReadable, IsReadable}

-- one more layer has its source
pub sources-more : (contents : List Picture) (drawn : List Drawn) (i : ℕ) (d : Drawn) (list : List ℕ) (place : ℕ) → i < length drawn → AllZip (λ layer source. IsReadable contents layer.content source) (take i drawn) list → IsReadable contents (get_or drawn i d).content place → AllZip (λ layer source. IsReadable contents layer.content source) (take (i + 1) drawn) (list ++ place ∷ [])
sources-more contents drawn i d list place h all one =
    rw (take_more drawn i d h) (all_zipped_more (λ layer source. IsReadable contents layer.content source) (take i drawn) list (get_or drawn i d) place all one)

-- painted pictures are contents
pub readable : (contents : List Picture) (layers drawn : List Drawn) (sources : List ℕ) → layers ≡ drawn → AllZip (λ layer source. IsReadable contents layer.content source) layers sources → AreReadable (map (λ picture. picture) contents) drawn sources
readable contents layers drawn sources same all = record {
  all = subst (λ (cs : List Picture). AllZip (λ layer source. IsReadable cs layer.content source) drawn sources) (sym (map-id contents)) (subst (λ (ls : List Drawn). AllZip (λ layer source. IsReadable contents layer.content source) ls sources) same all);
}
