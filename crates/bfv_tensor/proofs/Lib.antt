mod ProductModuli
mod JoinedRows
mod WordProducts
mod LiftedParts
mod ScaledParts
mod WrittenParts
mod Products
