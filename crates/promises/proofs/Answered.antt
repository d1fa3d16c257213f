-- What is equal to one value is equal. Assumes nothing.
use mathlib.Core.Path.{◌≡◌, sym, ap₂, ◌∙◌}
use Rattle.promises.specs.Answered.{SettledOnce}

pub settled-once : SettledOnce
settled-once = record {
  answer = λ learnt f s κs a z z' e e' p q. s κs a z e p ∙ sym (s κs a z' e' q);
  buffer = λ learnt held left s κs a z z' e e' p q. s κs a z e p ∙ sym (s κs a z' e' q);
}

-- what several places hold, as one value: from the equation of each
pub place-and : {X Y : Type 0} {x x' : X} {y y' : Y} → x ≡ x' → y ≡ y' → ◌≡◌ {A = X × Y} (x, y) (x', y')
place-and p q = ap₂ (λ a b. (a, b)) p q

pub two-places : {X Y : Type 0} {x x' : X} {y y' : Y} → (x ≡ x') × (y ≡ y') → ◌≡◌ {A = X × Y} (x, y) (x', y')
two-places p = place-and p.0 p.1

pub three-places : {X Y Z : Type 0} {x x' : X} {y y' : Y} {z z' : Z}
    → (x ≡ x') × ((y ≡ y') × (z ≡ z')) → ◌≡◌ {A = X × (Y × Z)} (x, (y, z)) (x', (y', z'))
three-places p = place-and p.0 (two-places p.1)

pub four-places : {X Y Z W : Type 0} {x x' : X} {y y' : Y} {z z' : Z} {w w' : W}
    → (x ≡ x') × ((y ≡ y') × ((z ≡ z') × (w ≡ w'))) → ◌≡◌ {A = X × (Y × (Z × W))} (x, (y, (z, w))) (x', (y', (z', w')))
four-places p = place-and p.0 (three-places p.1)
