-- The filters in naturals.
pub mod Sums
