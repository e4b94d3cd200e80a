-- What the contracts of points to return to cite, and what is claimed of a store.
pub mod Store
pub mod Returns
pub mod StoreOrder
