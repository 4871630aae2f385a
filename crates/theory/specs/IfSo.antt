-- One of two values, by whether a statement holds. Assumes nothing.

-- x where the statement holds, and y where it does not
unfoldable pub if_so : {A B : Type 0} → Dec A → B → B → B
if_so (yes a) x y = x
if_so (no n) x y = y
