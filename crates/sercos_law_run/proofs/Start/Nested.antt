-- A statement of many parts, told part by part.
infixr 10 ◌&◌
pub ◌&◌ : {A B : Type 0} → A → B → A × B
a & b = (a, b)
